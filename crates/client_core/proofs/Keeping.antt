-- A reply that is taken stands among those that are kept.
use Rattle.std.proofs.Common.{arith, ◌≡◌, ℕ, ◌+◌, ◌<◌, ◌≤◌, ◌==◌, nat_lt, ◌||◌, Bool, true, false, true≢false, if◌then◌else◌, inl, inr, List, [], ◌∷◌, refl, sym, ◌∙◌, ap, subst, Some}
use Rattle.mrp_types.specs.declared.id.PartitionId.{PartitionId}
use Rattle.command_codec.specs.declared.command.Command.{Command}
use Rattle.command_codec.specs.declared.reply.Reply.{Reply}
use Rattle.mrp_config.specs.declared.tables.PartitionTable.{PartitionTable}
use Rattle.mrp_config.specs.Config.{partition_at}
use Rattle.mrp_config.specs.Valid.{IncreasesFrom, partition_ids}
use Rattle.protocol.specs.Client.{has_part, with_part}
use Rattle.client_core.specs.Counted.{IsPart, ArePartsOf}

pub none_are : (command : Command) (ps : List PartitionTable) → ArePartsOf command ps []
none_are command [] = tt
none_are command (p ∷ ps) = tt

more_are : (command : Command) (p : PartitionTable) (ps : List PartitionTable) (parts : List (PartitionId × Reply)) → ArePartsOf command ps parts → ArePartsOf command (p ∷ ps) parts
more_are command p ps [] are = tt
more_are command p ps (part ∷ parts) are = inr are

-- replies are of partitions from the first number on
later_ids : (command : Command) (least : ℕ) (ps : List PartitionTable) (part : PartitionId × Reply) (parts : List (PartitionId × Reply)) → IncreasesFrom least (partition_ids ps) →
    ArePartsOf command ps (part ∷ parts) → least ≤ part.0.0
later_ids command least [] part parts rise are = absurd are
later_ids command least (p ∷ ps) part parts rise (inl here) = let same : part.0.0 ≡ p.id.0 = ap (λ (id : PartitionId). id.0) here.0 in omega (arith, same, rise.0)
later_ids command least (p ∷ ps) part parts rise (inr later) = omega (arith, later_ids command (p.id.0 + 1) ps part parts rise.1 later, rise.0)

found_above : (least id : ℕ) (ps : List PartitionTable) (p : PartitionTable) → IncreasesFrom least (partition_ids ps) → partition_at ps id ≡ Some p → least ≤ id
found_above least id [] p rise found = absurd cc
found_above least id (q ∷ ps) p rise found = by_test (q.id.0 == id) refl (found_above (q.id.0 + 1) id ps p rise.1) found
  where
    by_test : (t : Bool) → (q.id.0 == id) ≡ t → (partition_at ps id ≡ Some p → q.id.0 + 1 ≤ id) → (if t then Some q else partition_at ps id) ≡ Some p → least ≤ id
    by_test true is later found = let same : q.id.0 ≡ id = grind arith in omega (arith, same, rise.0)
    by_test false is later found = omega (arith, later found, rise.0)

less : (a b : ℕ) → a < b → nat_lt a b ≡ true
less a b h = grind arith

not_less : (a b : ℕ) → b ≤ a → nat_lt a b ≡ false
not_less a b h = grind arith

second_false : (t u : Bool) → (t || u) ≡ false → u ≡ false
second_false true u h = absurd (true≢false h)
second_false false u h = h

first_false : (t u : Bool) → (t || u) ≡ false → t ≡ false
first_false true u h = h
first_false false u h = refl

pub keeps_parts : (command : Command) (reply : Reply) (p : PartitionTable) (least : ℕ) (ps : List PartitionTable) (parts : List (PartitionId × Reply)) → IncreasesFrom least (partition_ids ps) →
    partition_at ps p.id.0 ≡ Some p → IsPart command p reply → ArePartsOf command ps parts → has_part parts p.id ≡ false → ArePartsOf command ps (with_part p.id reply parts)
keeps_parts command reply p least [] parts rise found is are new = absurd cc
keeps_parts command reply p least (q ∷ ps) [] rise found is are new =
    by_test (q.id.0 == p.id.0) found (λ later. keeps_parts command reply p (q.id.0 + 1) ps [] rise.1 later is (none_are command ps) refl)
  where
    by_test : (t : Bool) → (if t then Some q else partition_at ps p.id.0) ≡ Some p → (partition_at ps p.id.0 ≡ Some p → ArePartsOf command ps ((p.id, reply) ∷ [])) → ArePartsOf command (q ∷ ps) ((p.id, reply) ∷ [])
    by_test true found later = let same : p ≡ q = sym (cc) in inl (ap (λ (x : PartitionTable). x.id) same, subst (λ x. IsPart command x reply) same is, none_are command ps)
    by_test false found later = inr (later found)
keeps_parts command reply p least (q ∷ ps) (part ∷ parts) rise found is (inl here) new =
    by_test (q.id.0 == p.id.0) refl found (λ later. keeps_parts command reply p (q.id.0 + 1) ps parts rise.1 later is here.2 (second_false (part.0.0 == p.id.0) (has_part parts p.id) new))
  where
    same : part.0.0 ≡ q.id.0
    same = ap (λ (id : PartitionId). id.0) here.0

    by_test : (t : Bool) → (q.id.0 == p.id.0) ≡ t → (if t then Some q else partition_at ps p.id.0) ≡ Some p → (partition_at ps p.id.0 ≡ Some p → ArePartsOf command ps (with_part p.id reply parts)) →
        ArePartsOf command (q ∷ ps) (with_part p.id reply (part ∷ parts))
    by_test true is found later =
        let stands : (part.0.0 == p.id.0) ≡ true = ap (λ (id : PartitionId). id.0 == p.id.0) here.0 ∙ is in
        absurd (true≢false (sym stands ∙ first_false (part.0.0 == p.id.0) (has_part parts p.id) new))
    by_test false is found later =
        let above = found_above (q.id.0 + 1) p.id.0 ps p rise.1 found in
        let after : nat_lt p.id.0 part.0.0 ≡ false = not_less p.id.0 part.0.0 (omega (arith, above, same)) in
        rw after (inl (here.0, here.1, later found))
keeps_parts command reply p least (q ∷ ps) (part ∷ parts) rise found is (inr later) new =
    by_test (q.id.0 == p.id.0) refl found (λ rest. keeps_parts command reply p (q.id.0 + 1) ps (part ∷ parts) rise.1 rest is later new)
  where
    by_test : (t : Bool) → (q.id.0 == p.id.0) ≡ t → (if t then Some q else partition_at ps p.id.0) ≡ Some p → (partition_at ps p.id.0 ≡ Some p → ArePartsOf command ps (with_part p.id reply (part ∷ parts))) →
        ArePartsOf command (q ∷ ps) (with_part p.id reply (part ∷ parts))
    by_test true at found rest =
        let same : p ≡ q = sym (cc) in
        let number : p.id.0 ≡ q.id.0 = ap (λ (x : PartitionTable). x.id.0) same in
        let above = later_ids command (q.id.0 + 1) ps part parts rise.1 later in
        let before : nat_lt p.id.0 part.0.0 ≡ true = less p.id.0 part.0.0 (omega (arith, above, number)) in
        rw before (inl (ap (λ (x : PartitionTable). x.id) same, subst (λ x. IsPart command x reply) same is, later))
    by_test false at found rest = more_are command q ps (with_part p.id reply (part ∷ parts)) (rest found)
