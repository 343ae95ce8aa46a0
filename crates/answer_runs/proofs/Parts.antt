-- Parts in the order of the partitions: one more is put in its place, and all of them are the replies.
use Rattle.std.proofs.Common.{arith, ◌≡◌, inl, inr, ℕ, ◌+◌, ◌<◌, ◌≤◌, Bool, true, false, ◌&&◌, ◌||◌, List, [], ◌∷◌, Some, refl, sym, ap, ◌∙◌, subst, true≢false}
use Rattle.std.specs.Prelude.{◌==◌, nat_lt, if◌then◌else◌, map}
use Rattle.std.proofs.lemmas.Bool.Decides.{nat_tests}
use Rattle.mrp_types.specs.declared.id.PartitionId.{PartitionId}
use Rattle.command_codec.specs.declared.command.Command.{Command}
use Rattle.command_codec.specs.declared.reply.Reply.{Reply}
use Rattle.mrp_config.specs.declared.tables.PartitionTable.{PartitionTable}
use Rattle.mrp_config.specs.Config.{partition_at}
use Rattle.mrp_config.specs.Routing.{concerned_of, is_concerned}
use Rattle.mrp_config.specs.Valid.{IncreasesFrom, partition_ids}
use Rattle.quorums.specs.Groups.{Has}
use Rattle.plain_model.proofs.TupleOrder.{split_and}
use Rattle.protocol.specs.Client.{has_part, with_part, have_all}
use Rattle.answer_runs.specs.Answers.{AreParts}

-- ---- numbers of partitions

increases_lower : (low lower : ℕ) (ns : List ℕ) → lower ≤ low → IncreasesFrom low ns → IncreasesFrom lower ns
increases_lower low lower [] less rise = tt
increases_lower low lower (n ∷ ns) less rise = (let h : low ≤ n = rise.0 in omega arith, rise.1)

-- the concerned ones increase too
pub concerned_rise : (command : Command) (low : ℕ) (ps : List PartitionTable) → IncreasesFrom low (partition_ids ps) → IncreasesFrom low (partition_ids (concerned_of command ps))
concerned_rise command low [] rise = tt
concerned_rise command low (p ∷ ps) rise = go (concerned_rise command (p.id.0 + 1) ps rise.1) (is_concerned command p)
  where
    go : IncreasesFrom (p.id.0 + 1) (partition_ids (concerned_of command ps)) → (t : Bool) → IncreasesFrom low (partition_ids (if t then p ∷ concerned_of command ps else concerned_of command ps))
    go rest true = (rise.0, rest)
    go rest false = increases_lower (p.id.0 + 1) low (partition_ids (concerned_of command ps)) (let h : low ≤ p.id.0 = rise.0 in omega arith) rest

pub concerned_has : (command : Command) (p : PartitionTable) (ps : List PartitionTable) → Has ps p → is_concerned command p ≡ true → Has (concerned_of command ps) p
concerned_has command p [] has is = absurd has
concerned_has command p (q ∷ ps) has is = go (λ there. concerned_has command p ps there is) (is_concerned command q) refl has
  where
    go : (Has ps p → Has (concerned_of command ps) p) → (t : Bool) → is_concerned command q ≡ t → Has (q ∷ ps) p → Has (if t then q ∷ concerned_of command ps else concerned_of command ps) p
    go later true e (inl same) = inl same
    go later true e (inr there) = inr (later there)
    go later false e (inl same) = absurd (true≢false (sym is ∙ ap (λ (x : PartitionTable). is_concerned command x) same ∙ e))
    go later false e (inr there) = later there

-- the partition that is found is one of them
pub found_has : (ps : List PartitionTable) (id : ℕ) (p : PartitionTable) → partition_at ps id ≡ Some p → Has ps p
found_has [] id p e = absurd (cc)
found_has (q ∷ ps) id p e = go (λ h. found_has ps id p h) (q.id.0 == id) e
  where
    some : (x y : PartitionTable) → Some x ≡ Some y → y ≡ x
    some x y h = cc

    go : (partition_at ps id ≡ Some p → Has ps p) → (t : Bool) → (if t then Some q else partition_at ps id) ≡ Some p → Has (q ∷ ps) p
    go later true h = inl (some q p h)
    go later false h = inr (later h)

pub at_least : (low : ℕ) (ps : List PartitionTable) (q : PartitionTable) → IncreasesFrom low (partition_ids ps) → Has ps q → low ≤ q.id.0
at_least low [] q rise has = absurd has
at_least low (p ∷ ps) q rise (inl same) = subst (λ (x : PartitionTable). low ≤ x.id.0) (sym same) rise.0
at_least low (p ∷ ps) q rise (inr has) =
    let first : low ≤ p.id.0 = rise.0 in
    let later : p.id.0 + 1 ≤ q.id.0 = at_least (p.id.0 + 1) ps q rise.1 has in
    omega arith

pub differ : (a b : ℕ) → a < b → (a == b) ≡ false
differ a b h = grind arith

not_less : (a b : ℕ) → b ≤ a → nat_lt a b ≡ false
not_less a b h = grind (arith, nat_tests)

is_less : (a b : ℕ) → a < b → nat_lt a b ≡ true
is_less a b h = grind (arith, nat_tests)

equal : (n : ℕ) → (n == n) ≡ true
equal n = grind (arith, nat_tests)

or_false : (a b : Bool) → (a || b) ≡ false → b ≡ false
or_false true b h = absurd (true≢false h)
or_false false b h = h

-- ---- parts

pub parts_more : (P Q : PartitionTable → Reply → Type 0) → ((p : PartitionTable) (r : Reply) → P p r → Q p r) → (ps : List PartitionTable) (parts : List (PartitionId × Reply)) → AreParts P ps parts → AreParts Q ps parts
parts_more P Q h [] parts e = e
parts_more P Q h (p ∷ ps) parts (inl rest) = inl (parts_more P Q h ps parts rest)
parts_more P Q h (p ∷ ps) parts (inr x) = inr (x.0, x.1, x.2, h p x.0 x.3, parts_more P Q h ps x.1 x.4)

module _ (Is : PartitionTable → Reply → Type 0) where
  pub no_parts : (ps : List PartitionTable) → AreParts Is ps []
  no_parts [] = refl
  no_parts (p ∷ ps) = inl (no_parts ps)

  none_lower : (low : ℕ) (ps : List PartitionTable) (parts : List (PartitionId × Reply)) (id : PartitionId) → IncreasesFrom low (partition_ids ps) → AreParts Is ps parts → id.0 < low → has_part parts id ≡ false
  none_lower low [] parts id rise e below = ap (λ (xs : List (PartitionId × Reply)). has_part xs id) e
  none_lower low (p ∷ ps) parts id rise (inl rest) below = none_lower (p.id.0 + 1) ps parts id rise.1 rest (let h : low ≤ p.id.0 = rise.0 in omega arith)
  none_lower low (p ∷ ps) parts id rise (inr x) below =
      let h : low ≤ p.id.0 = rise.0 in
      let later : has_part x.1 id ≡ false = none_lower (p.id.0 + 1) ps x.1 id rise.1 x.4 (omega arith) in
      ap (λ (xs : List (PartitionId × Reply)). has_part xs id) x.2 ∙ ap (λ (t : Bool). t || has_part x.1 id) (apart p.id.0 id.0 (omega arith)) ∙ later
    where
      apart : (a b : ℕ) → b < a → (a == b) ≡ false
      apart a b h = grind arith

  -- a part of a lower partition comes first
  first_put : (low : ℕ) (ps : List PartitionTable) (parts : List (PartitionId × Reply)) (id : PartitionId) (reply : Reply) → IncreasesFrom low (partition_ids ps) → AreParts Is ps parts → id.0 < low
      → with_part id reply parts ≡ (id, reply) ∷ parts
  first_put low [] parts id reply rise e below = ap (λ (xs : List (PartitionId × Reply)). with_part id reply xs) e ∙ ap (λ (xs : List (PartitionId × Reply)). (id, reply) ∷ xs) (sym e)
  first_put low (p ∷ ps) parts id reply rise (inl rest) below = first_put (p.id.0 + 1) ps parts id reply rise.1 rest (let h : low ≤ p.id.0 = rise.0 in omega arith)
  first_put low (p ∷ ps) parts id reply rise (inr x) below =
      let h : low ≤ p.id.0 = rise.0 in
      ap (λ (xs : List (PartitionId × Reply)). with_part id reply xs) x.2
      ∙ ap (λ (t : Bool). if t then (id, reply) ∷ (p.id, x.0) ∷ x.1 else (p.id, x.0) ∷ with_part id reply x.1) (is_less id.0 p.id.0 (omega arith))
      ∙ ap (λ (xs : List (PartitionId × Reply)). (id, reply) ∷ xs) (sym x.2)

  -- the part of a partition that has none is put in its place
  pub part_put : (low : ℕ) (ps : List PartitionTable) (parts : List (PartitionId × Reply)) (q : PartitionTable) (reply : Reply) → IncreasesFrom low (partition_ids ps) → Has ps q → has_part parts q.id ≡ false
      → Is q reply → AreParts Is ps parts → AreParts Is ps (with_part q.id reply parts)
  part_put low [] parts q reply rise has none is e = absurd has
  part_put low (p ∷ ps) parts q reply rise (inl same) none is (inl rest) =
      let at : with_part q.id reply parts ≡ (q.id, reply) ∷ parts =
      first_put (p.id.0 + 1) ps parts q.id reply rise.1 rest (let e : q.id.0 ≡ p.id.0 = ap (λ (x : PartitionTable). x.id.0) same in omega arith) in
      inr (reply, parts, at ∙ ap (λ (x : PartitionTable). (x.id, reply) ∷ parts) same, subst (λ (x : PartitionTable). Is x reply) same is, rest)
  part_put low (p ∷ ps) parts q reply rise (inl same) none is (inr x) = absurd (true≢false (sym there ∙ none))
    where
      there : has_part parts q.id ≡ true
      there = ap (λ (xs : List (PartitionId × Reply)). has_part xs q.id) x.2 ∙ ap (λ (y : PartitionTable). (p.id.0 == y.id.0) || has_part x.1 y.id) same ∙ ap (λ (t : Bool). t || has_part x.1 p.id) (equal p.id.0)
  part_put low (p ∷ ps) parts q reply rise (inr has) none is (inl rest) = inl (part_put (p.id.0 + 1) ps parts q reply rise.1 has none is rest)
  part_put low (p ∷ ps) parts q reply rise (inr has) none is (inr x) =
      let later : p.id.0 + 1 ≤ q.id.0 = at_least (p.id.0 + 1) ps q rise.1 has in
      let at : with_part q.id reply parts ≡ (p.id, x.0) ∷ with_part q.id reply x.1 =
      ap (λ (xs : List (PartitionId × Reply)). with_part q.id reply xs) x.2
      ∙ ap (λ (t : Bool). if t then (q.id, reply) ∷ (p.id, x.0) ∷ x.1 else (p.id, x.0) ∷ with_part q.id reply x.1) (not_less q.id.0 p.id.0 (omega arith)) in
      let none_later : has_part x.1 q.id ≡ false =
      or_false (p.id.0 == q.id.0) (has_part x.1 q.id) (ap (λ (xs : List (PartitionId × Reply)). has_part xs q.id) (sym x.2) ∙ none) in
      inr (x.0, with_part q.id reply x.1, at, x.3, part_put (p.id.0 + 1) ps x.1 q reply rise.1 has none_later is x.4)

  -- a lower part is none of theirs
  have_rest : (low : ℕ) (ps : List PartitionTable) (part : PartitionId × Reply) (rest : List (PartitionId × Reply)) → IncreasesFrom low (partition_ids ps) → part.0.0 < low → have_all ps (part ∷ rest) ≡ true → have_all ps rest ≡ true
  have_rest low [] part rest rise below h = refl
  have_rest low (p ∷ ps) part rest rise below h =
      let first : low ≤ p.id.0 = rise.0 in
      let s = split_and (has_part (part ∷ rest) p.id) (have_all ps (part ∷ rest)) h in
      let own : has_part rest p.id ≡ true = ap (λ (t : Bool). t || has_part rest p.id) (sym (differ part.0.0 p.id.0 (omega arith))) ∙ s.0 in
      ap (λ (t : Bool). t && have_all ps rest) own ∙ have_rest (p.id.0 + 1) ps part rest rise.1 (omega arith) s.1

  -- each of some partitions, in order
  abbrev pub AreAll : List PartitionTable → List Reply → Type 0
  AreAll [] [] = Unit {0}
  AreAll (p ∷ ps) (reply ∷ replies) = Is p reply × AreAll ps replies
  AreAll ps replies = ⊥

  abbrev pub replies_of : List (PartitionId × Reply) → List Reply
  replies_of parts = map (λ (part : PartitionId × Reply). part.1) parts

  -- where all have replied the parts are the replies of all
  pub all_replied : (low : ℕ) (ps : List PartitionTable) (parts : List (PartitionId × Reply)) → IncreasesFrom low (partition_ids ps) → AreParts Is ps parts → have_all ps parts ≡ true → AreAll ps (replies_of parts)
  all_replied low [] parts rise e h = subst (λ (xs : List (PartitionId × Reply)). AreAll [] (replies_of xs)) (sym e) tt
  all_replied low (p ∷ ps) parts rise (inl rest) h =
      absurd (true≢false (sym (split_and (has_part parts p.id) (have_all ps parts) h).0 ∙ none_lower (p.id.0 + 1) ps parts p.id rise.1 rest (omega arith)))
  all_replied low (p ∷ ps) parts rise (inr x) h =
      let s = split_and (has_part parts p.id) (have_all ps parts) h in
      let rest : have_all ps x.1 ≡ true = have_rest (p.id.0 + 1) ps (p.id, x.0) x.1 rise.1 (omega arith) (ap (λ (xs : List (PartitionId × Reply)). have_all ps xs) (sym x.2) ∙ s.1) in
      subst (λ (xs : List (PartitionId × Reply)). AreAll (p ∷ ps) (replies_of xs)) (sym x.2) (x.3, all_replied (p.id.0 + 1) ps x.1 rise.1 x.4 rest)
