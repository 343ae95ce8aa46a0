-- What proposing chooses may be offered, and a page of votes that is reported leaves reports in order.
use Rattle.std.proofs.Common.{◌≡◌, ℕ, suc, ◌<◌, ◌≤◌, max, Bool, true, false, ◌&&◌, ◌||◌, List, [], ◌∷◌, Option, Some, None, refl, sym, ◌∙◌, ap, subst, arith}
use Rattle.std.specs.Prelude.{nat_lt, not, if◌then◌else◌}
use Rattle.std.proofs.lemmas.Bool.{and_parts}
use Rattle.std.proofs.lemmas.Bool.Decides.{nat_tests}
use Rattle.mrp_types.specs.declared.value.Value.{Value}
use Rattle.mrp_types.specs.declared.value.Value.TheVariants.{Skip, Batch}
use Rattle.mrp_types.specs.declared.value.Entry.{Entry}
use Rattle.mrp_types.specs.declared.voted.Voted.{Voted}
use Rattle.mrp_types.specs.declared.voted.Decided.{Decided}
use Rattle.command_codec.specs.Spelling.{batch_bytes}
use Rattle.range_map.specs.Entries.{value_at, IsIncreasingFrom}
use Rattle.vote_state.specs.declared.cast.Cast.{Cast}
use Rattle.vote_state.specs.Ranges.{cast_of}
use Rattle.skip_leveller.specs.Levelling.{Levelling, levels_next, answer_of}
use Rattle.protocol.specs.Parts.{Ring, Campaign}
use Rattle.protocol.specs.Learner.{with_met}
use Rattle.protocol.specs.Ballots.{covered_to, leads_now, higher, with_reports}
use Rattle.protocol.specs.Proposing.{reported_to, due_by, due_at, run_end, fresh_entries, Offers, Rests, single, fresh_choice, choice_of, has_room, choice}
use Rattle.protocol.specs.Meaning.{IsLongestRun, Meets}
use Rattle.protocol.proofs.CoverLemmas.{covers}
use Rattle.protocol.proofs.EntryLemmas.{meets}
use Rattle.protocol.proofs.RunLemmas.{is_longest_run}

-- a value agrees with what is reported at an instance
abbrev pub Agrees : List (ℕ × Cast) → ℕ → Value → Type 0
Agrees reports i value = (cast : Cast) → value_at i reports ≡ Some cast → value ≡ cast.value

-- what may be offered: from the next instance on, where a majority is covered, a value that agrees with all reports there
pub record IsOffer (ring : Ring) (campaign : Campaign) (range : Decided) : Type 0 where
  pub begins : range.lo ≡ campaign.next
  pub some : range.lo < range.hi
  pub covered : (i : ℕ) → range.lo ≤ i → i < range.hi → i < covered_to ring campaign.covered
  pub agrees : (i : ℕ) → range.lo ≤ i → i < range.hi → Agrees campaign.reports i range.value

-- ---- the choice is such an offer

due_agrees : (o : Option Cast) (gap : Bool) (value : Value) → due_by o gap ≡ Some value → (cast : Cast) → o ≡ Some cast → value ≡ cast.value
due_agrees None gap value e cast is = absurd (cc)
due_agrees (Some held) gap value e cast is = let same : held ≡ cast = cc in let v : held.value ≡ value = cc in sym v ∙ ap (λ (c : Cast). c.value) same

fresh_agrees : (o : Option Cast) (gap : Bool) → due_by o gap ≡ None → (value : Value) (cast : Cast) → o ≡ Some cast → value ≡ cast.value
fresh_agrees None gap e value cast is = absurd (cc)
fresh_agrees (Some held) gap e value cast is = absurd (cc)

pub some_range : {x y : Decided} {m n : ℕ} → Offers x m ≡ Offers y n → x ≡ y
some_range e = cc

module _ (ring : Ring) (campaign : Campaign) (held : List (ℕ × Value)) (p : IsIncreasingFrom 0 campaign.reports) (q : IsIncreasingFrom 0 held)
    (lt : campaign.next < covered_to ring campaign.covered) (unlearned : value_at campaign.next held ≡ None) where
  -- at the next instance alone
  single_offer : (batch : List ℕ) → Agrees campaign.reports campaign.next (Batch batch) → IsOffer ring campaign (single campaign.next batch)
  single_offer batch agrees = record {
    begins = refl;
    some = omega arith;
    covered = λ i x y. omega arith;
    agrees = λ i x y. let here : i ≡ campaign.next = omega arith in subst (λ j. Agrees campaign.reports j (Batch batch)) (sym here) agrees;
  }

  skip_offer : due_at ring campaign campaign.next ≡ Some Skip → IsOffer ring campaign (record { lo = campaign.next; hi = run_end ring campaign held; value = Skip })
  skip_offer due =
      let run : IsLongestRun ring campaign held (run_end ring campaign held) = is_longest_run ring campaign held p q in
      record {
        begins = refl;
        some = run.begins (record { covered = (covers ring campaign.covered campaign.next).0 lt; unlearned = unlearned; due = due });
        covered = λ i x y. (covers ring campaign.covered i).1 (run.each i x y).covered;
        agrees = λ i x y. due_agrees (value_at i campaign.reports) (not (leads_now ring campaign) || nat_lt (suc i) (reported_to campaign.reports)) Skip (run.each i x y).due;
      }

  fresh_offer : due_at ring campaign campaign.next ≡ None → (entries : List Entry) (range : Decided) (taken : ℕ) → fresh_choice campaign.next entries ≡ Offers range taken → IsOffer ring campaign range
  fresh_offer due [] range taken e = absurd (cc)
  fresh_offer due (entry ∷ entries) range taken e =
      subst (λ r. IsOffer ring campaign r) (some_range e)
      (single_offer (batch_bytes (entry ∷ entries)) (fresh_agrees (value_at campaign.next campaign.reports) (not (leads_now ring campaign) || nat_lt (suc campaign.next) (reported_to campaign.reports)) due (Batch (batch_bytes (entry ∷ entries)))))

  pub chosen_offer : (due : Option Value) → due_at ring campaign campaign.next ≡ due → (range : Decided) (taken : ℕ) → choice_of ring campaign held due ≡ Offers range taken
      → IsOffer ring campaign range
  chosen_offer (Some (Batch batch)) due range taken e =
      subst (λ r. IsOffer ring campaign r) (some_range e)
      (single_offer batch (due_agrees (value_at campaign.next campaign.reports) (not (leads_now ring campaign) || nat_lt (suc campaign.next) (reported_to campaign.reports)) (Batch batch) due))
  chosen_offer (Some Skip) due range taken e = subst (λ r. IsOffer ring campaign r) (some_range e) (skip_offer due)
  chosen_offer None due range taken e = fresh_offer due (fresh_entries campaign.pending) range taken e

pub choice_offer : (ring : Ring) (campaign : Campaign) (held : List (ℕ × Value)) → IsIncreasingFrom 0 campaign.reports → IsIncreasingFrom 0 held → value_at campaign.next held ≡ None
    → (range : Decided) (taken : ℕ) → choice ring campaign held ≡ Offers range taken → IsOffer ring campaign range
choice_offer ring campaign held p q unlearned range taken = go (has_room ring campaign && nat_lt campaign.next (covered_to ring campaign.covered)) refl
  where
    go : (b : Bool) → (has_room ring campaign && nat_lt campaign.next (covered_to ring campaign.covered)) ≡ b
        → (if b then choice_of ring campaign held (due_at ring campaign campaign.next) else Rests) ≡ Offers range taken → IsOffer ring campaign range
    go false t e = absurd (cc)
    go true t e =
        let parts = and_parts (has_room ring campaign) (nat_lt campaign.next (covered_to ring campaign.covered)) t in
        let test = parts.1 in
        let lt : campaign.next < covered_to ring campaign.covered = grind (arith, nat_tests) in
        chosen_offer ring campaign held p q lt unlearned (due_at ring campaign campaign.next) refl range taken e

-- ---- reports

module _ (from : ℕ) where
  abbrev pub met : Voted → List (ℕ × Cast) → List (ℕ × Cast)
  met vote reports = with_met higher (max vote.lo from) vote.hi (cast_of vote) reports

  pub is_met : (vote : Voted) (reports : List (ℕ × Cast)) → IsIncreasingFrom 0 reports → Meets higher (max vote.lo from) vote.hi (cast_of vote) reports (met vote reports)
  is_met vote reports p = meets higher (cast_of vote) (max vote.lo from) vote.hi reports p

  pub reports_ordered : (votes : List Voted) (reports : List (ℕ × Cast)) → IsIncreasingFrom 0 reports → IsIncreasingFrom 0 (with_reports from votes reports)
  reports_ordered [] reports p = p
  reports_ordered (vote ∷ votes) reports p = reports_ordered votes (met vote reports) (is_met vote reports p).in_order

-- ---- levelling

-- what the leveller asks for is some instance at least
pub some_missing : (l : Levelling) (missing : ℕ) → answer_of l ≡ Some missing → 0 < missing
some_missing l missing = go (levels_next l && nat_lt 0 l.shortfall) refl
  where
    go : (b : Bool) → (levels_next l && nat_lt 0 l.shortfall) ≡ b → (if b then Some l.shortfall else None) ≡ Some missing → 0 < missing
    go true t e =
        let parts = and_parts (levels_next l) (nat_lt 0 l.shortfall) t in
        let test = parts.1 in
        let same : l.shortfall ≡ missing = cc in
        grind (arith, nat_tests)
    go false t e = absurd (cc)
