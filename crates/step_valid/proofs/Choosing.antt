-- What is chosen to be proposed may be voted for: it ends at the end of all instances at most, a batch stands alone, and its value has a
-- spelling.
use Rattle.std.proofs.Common.{◌≡◌, ℕ, suc, ◌+◌, ◌<◌, ◌≤◌, min, max, Bool, true, false, ◌&&◌, ◌||◌, List, [], ◌∷◌, Option, Some, None, refl, sym, ap, subst, arith}
use Rattle.std.specs.Prelude.{nat_lt, nat_le, not, if◌then◌else◌, count_by}
use Rattle.std.specs.List.{AllByRecursion}
use Rattle.std.proofs.lemmas.Bool.{and_parts}
use Rattle.std.proofs.lemmas.Bool.Decides.{nat_tests}
use Rattle.mrp_types.specs.declared.id.TheConstants.{END}
use Rattle.mrp_types.specs.declared.value.Value.{Value}
use Rattle.mrp_types.specs.declared.value.Value.TheVariants.{Skip, Batch}
use Rattle.mrp_types.specs.declared.value.Entry.{Entry}
use Rattle.mrp_types.specs.declared.voted.Decided.{Decided}
use Rattle.command_codec.specs.Parts.{IsSpelled}
use Rattle.range_map.specs.Entries.{value_at, IsIncreasingFrom}
use Rattle.vote_state.specs.Valid.{IsVoted}
use Rattle.vote_state.specs.declared.cast.Cast.{Cast}
use Rattle.protocol.specs.Parts.{Ring, Campaign}
use Rattle.protocol.specs.Rings.{majority_of}
use Rattle.protocol.specs.Ballots.{reached_by, covered_to, leads_now, reported}
use Rattle.protocol.specs.Proposing.{reported_to, due_by, due_at, first_where, is_any, is_batch, gaps_to, run_end, fresh_entries, single, fresh_choice, Rests, Offers, choice_of, has_room, choice, vote_of}
use Rattle.protocol.proofs.OfferLemmas.{choice_offer, some_range}
use Rattle.step_valid.specs.Valid.{MayVote, CampaignValid}
use Rattle.step_valid.proofs.Batches.{all_at, fresh_batch}

abbrev Spelled : ℕ × Cast → Type 0
Spelled e = IsSpelled e.1.value

-- ---- how far proposals go

reached_within : (count : ℕ) (all xs : List ℕ) → AllByRecursion (λ c. c ≤ END) xs → reached_by count all xs ≤ END
reached_within count all [] each = omega arith
reached_within count all (x ∷ xs) each = go (nat_le count (count_by (λ y. nat_le x y) all)) (reached_within count all xs each.1)
  where
    go : (b : Bool) → reached_by count all xs ≤ END → max (if b then x else 0) (reached_by count all xs) ≤ END
    go true rest = let first : x ≤ END = each.0 in omega arith
    go false rest = omega arith

covered_within : (ring : Ring) (covered : List ℕ) → AllByRecursion (λ c. c ≤ END) covered → covered_to ring covered ≤ END
unfolding covered_to
covered_within ring covered each = reached_within (majority_of ring) covered covered each

where_within : {T : Type 0} (test : T → Bool) (from bound : ℕ) (es : List (ℕ × T)) → first_where test from bound es ≤ bound
unfolding first_where
where_within test from bound [] = omega arith
where_within test from bound (e ∷ es) = go (nat_le from e.0 && test e.1) (where_within test from bound es)
  where
    go : (b : Bool) → first_where test from bound es ≤ bound → (if b then min e.0 bound else first_where test from bound es) ≤ bound
    go true rest = omega arith
    go false rest = rest

gaps_within : (leads : Bool) (reported covered : ℕ) → gaps_to leads reported covered ≤ covered
gaps_within true reported covered = omega arith
gaps_within false reported covered = omega arith

run_ended : (ring : Ring) (campaign : Campaign) (held : List (ℕ × Value)) → CampaignValid campaign → run_end ring campaign held ≤ END
run_ended ring campaign held c =
    let gap : ℕ = gaps_to (leads_now ring campaign) (reported_to campaign.reports) (covered_to ring campaign.covered) in
    let bound : ℕ = min (campaign.next + 65536) gap in
    let one = gaps_within (leads_now ring campaign) (reported_to campaign.reports) (covered_to ring campaign.covered) in
    let two = where_within is_batch campaign.next bound campaign.reports in
    let three = where_within is_any campaign.next (first_where is_batch campaign.next bound campaign.reports) held in
    let four = covered_within ring campaign.covered c.covered in
    omega arith

-- what is chosen to be proposed may be voted for
due_spelled : (o : Option Cast) (gap : Bool) (value : Value) → ((c : Cast) → o ≡ Some c → IsSpelled c.value) → due_by o gap ≡ Some value → IsSpelled value
due_spelled (Some cast) gap value h e = let same : cast.value ≡ value = cc in subst (λ (v : Value). IsSpelled v) same (h cast refl)
due_spelled None true value h e = let same : Skip ≡ value = cc in subst (λ (v : Value). IsSpelled v) same tt
due_spelled None false value h e = absurd (cc)

single_may : (campaign : Campaign) → CampaignValid campaign → (batch : List ℕ) → IsSpelled (Batch batch) → campaign.next < END → MayVote (vote_of campaign.ballot (single campaign.next batch))
single_may campaign c batch is under = λ lt. record { ballot = c.ballot; range = lt; end = omega arith; alone = λ e. omega arith; value = is }

spelled_may : (ring : Ring) (campaign : Campaign) (held : List (ℕ × Value)) → CampaignValid campaign → (range : Decided) (taken : ℕ) → choice ring campaign held ≡ Offers range taken
    → MayVote (vote_of campaign.ballot range)
spelled_may ring campaign held c range taken = go (has_room ring campaign && nat_lt campaign.next (covered_to ring campaign.covered)) refl
  where
    reported_there : (cast : Cast) → value_at campaign.next campaign.reports ≡ Some cast → IsSpelled cast.value
    reported_there cast e = (all_at Spelled campaign.reports campaign.next cast c.reports e).1

    spelled : (value : Value) → due_at ring campaign campaign.next ≡ Some value → IsSpelled value
    spelled value e = due_spelled (value_at campaign.next campaign.reports) (not (leads_now ring campaign) || nat_lt (suc campaign.next) (reported_to campaign.reports)) value reported_there e

    by_due : campaign.next < END → (due : Option Value) → due_at ring campaign campaign.next ≡ due → choice_of ring campaign held due ≡ Offers range taken → MayVote (vote_of campaign.ballot range)
    by_due under (Some (Batch batch)) due e = subst (λ (r : Decided). MayVote (vote_of campaign.ballot r)) (some_range e) (single_may campaign c batch (spelled (Batch batch) due) under)
    by_due under (Some Skip) due e =
        let end = run_ended ring campaign held c in
        let run : Decided = record { lo = campaign.next; hi = run_end ring campaign held; value = Skip } in
        let may : MayVote (vote_of campaign.ballot run) = λ lt. record { ballot = c.ballot; range = lt; end = omega arith; alone = λ is. absurd (cc); value = tt } in
        subst (λ (r : Decided). MayVote (vote_of campaign.ballot r)) (some_range e) may
    by_due under None due e = fresh (fresh_entries campaign.pending) refl e
      where
        fresh : (entries : List Entry) → fresh_entries campaign.pending ≡ entries → fresh_choice campaign.next entries ≡ Offers range taken → MayVote (vote_of campaign.ballot range)
        fresh [] is h = absurd (cc)
        fresh (entry ∷ entries) is h =
            let f = fresh_batch campaign c.pending (entry ∷ entries) is range taken h in
            let lo : range.lo ≡ campaign.next = sym (ap (λ (r : Decided). r.lo) (some_range h)) in
            let hi : range.hi ≡ suc range.lo = f.1 in
            λ lt. record { ballot = c.ballot; range = lt; end = omega arith; alone = λ e. hi; value = f.0 }

    go : (b : Bool) → (has_room ring campaign && nat_lt campaign.next (covered_to ring campaign.covered)) ≡ b
        → (if b then choice_of ring campaign held (due_at ring campaign campaign.next) else Rests) ≡ Offers range taken → MayVote (vote_of campaign.ballot range)
    go false t e = absurd (cc)
    go true t e =
        let test = (and_parts (has_room ring campaign) (nat_lt campaign.next (covered_to ring campaign.covered)) t).1 in
        let lt : campaign.next < covered_to ring campaign.covered = grind (arith, nat_tests) in
        let within = covered_within ring campaign.covered c.covered in
        by_due (omega arith) (due_at ring campaign campaign.next) refl e

pub choice_may : (ring : Ring) (campaign : Campaign) (held : List (ℕ × Value)) → CampaignValid campaign → IsIncreasingFrom 0 held → value_at campaign.next held ≡ None
    → (range : Decided) (taken : ℕ) → choice ring campaign held ≡ Offers range taken → IsVoted (vote_of campaign.ballot range)
choice_may ring campaign held c ordered unlearned range taken is =
    spelled_may ring campaign held c range taken is (choice_offer ring campaign held c.ordered ordered unlearned range taken is).some
