-- What is held as maximal ranges, one after another: they are those of votes of one ballot.
use Rattle.std.proofs.Common.{◌≡◌, ℕ, suc, ◌+◌, ◌-◌, ◌<◌, ◌≤◌, List, [], ◌∷◌, map, refl, sym, ◌∙◌, ap, subst, arith, inl, inr}
use Rattle.std.specs.Prelude.{Option, Some, None, IsSome, option_map, nat_le, if◌then◌else◌}
use Rattle.std.specs.List.{AllByRecursion}
use Rattle.std.proofs.lemmas.Bool.{cases_lt, cases_eq}
use Rattle.mrp_types.specs.declared.value.Value.{Value}
use Rattle.mrp_types.specs.declared.value.Value.TheVariants.{Skip, Batch}
use Rattle.mrp_types.specs.declared.voted.Voted.{Voted}
use Rattle.command_codec.specs.Parts.{IsSpelled}
use Rattle.range_map.specs.Entries.{value_at, IsIncreasingFrom, entries_from, IsNextHeld, IsNextRun, IsRunRound}
use Rattle.range_map.proofs.SetLemmas.{le-true, le-false}
use Rattle.range_map.proofs.EntryLemmas.{same_entries, value_at-entries_from, increasing_entries_from, value_here, value_later}
use Rattle.vote_state.specs.declared.cast.Cast.{Cast}
use Rattle.vote_state.specs.Ranges.{voted, ranges_of}
use Rattle.vote_state.proofs.RangeLemmas.{no_next, first_skips, first_batch}
use Rattle.plain_model.specs.Pages.{front_within}
use Rattle.protocol.specs.Learner.{unballoted, decided_of, learned_ranges}
use Rattle.ring_learner.specs.Filled.{IsLearned}

abbrev as_vote : ℕ × Value → ℕ × Cast
as_vote e = (e.0, unballoted e.1)

abbrev votes : List (ℕ × Value) → List (ℕ × Cast)
votes held = map as_vote held

-- ---- votes of one ballot

increasing_votes : (k : ℕ) (es : List (ℕ × Value)) → IsIncreasingFrom k es → IsIncreasingFrom k (votes es)
increasing_votes k [] p = tt
increasing_votes k (e ∷ es) p = (p.0, increasing_votes (suc e.0) es p.1)

votes_at : (i : ℕ) (es : List (ℕ × Value)) → value_at i (votes es) ≡ option_map unballoted (value_at i es)
votes_at i [] = refl
votes_at i (e ∷ es) =
    elim (cases_eq i e.0) [
      | inl same ↦ value_here (as_vote e) (votes es) i same ∙ ap (λ (o : Option Value). option_map unballoted o) (sym (value_here e es i same))
      | inr ne ↦ value_later (as_vote e) (votes es) i ne ∙ votes_at i es ∙ ap (λ (o : Option Value). option_map unballoted o) (sym (value_later e es i ne))
    ]

some_mapped : (o : Option Value) → IsSome o → IsSome (option_map unballoted o)
some_mapped None some = absurd (cc)
some_mapped (Some value) some = refl

mapped_some : (o : Option Value) (value : Value) → option_map unballoted o ≡ Some (unballoted value) → o ≡ Some value
mapped_some None value same = absurd (cc)
mapped_some (Some held) value same =
    let one : unballoted held ≡ unballoted value = cc in
    ap (λ (c : Cast). Some c.value) one

-- ---- the votes from an instance on

module _ (held : List (ℕ × Value)) (from : ℕ) (p : IsIncreasingFrom 0 held) where
  abbrev seen : List (ℕ × Cast)
  seen = votes (entries_from from held)

  seen_at : (i : ℕ) → from ≤ i → value_at i seen ≡ option_map unballoted (value_at i held)
  seen_at i h = votes_at i (entries_from from held) ∙ ap (λ (o : Option Value). option_map unballoted o) (value_at-entries_from from held i ∙ rw (le-true from i h) refl)

  seen_below : (i : ℕ) → i < from → value_at i seen ≡ None
  seen_below i h =
      let none : value_at i (entries_from from held) ≡ None = value_at-entries_from from held i ∙ rw (le-false from i h) refl in
      votes_at i (entries_from from held) ∙ ap (λ (o : Option Value). option_map unballoted o) none

  seen_ordered : IsIncreasingFrom 0 seen
  seen_ordered = increasing_votes 0 (entries_from from held) (increasing_entries_from 0 from 0 held p (inl (omega arith)))

  seen_later : (hi : ℕ) → from ≤ hi → entries_from hi seen ≡ votes (entries_from hi held)
  seen_later hi h =
      same_entries 0 (entries_from hi seen) (votes (entries_from hi held)) (increasing_entries_from 0 hi 0 seen seen_ordered (inl (omega arith)))
      (increasing_votes 0 (entries_from hi held) (increasing_entries_from 0 hi 0 held p (inl (omega arith))))
      (λ i. value_at-entries_from hi seen i ∙ elim (cases_lt i hi) [
        | inl below ↦ rw (le-false hi i below) (sym (told i ∙ rw (le-false hi i below) refl))
        | inr above ↦ rw (le-true hi i above) (seen_at i (omega arith) ∙ sym (told i ∙ rw (le-true hi i above) refl))
      ])
    where
      told : (i : ℕ) → value_at i (votes (entries_from hi held)) ≡ option_map unballoted (if nat_le hi i then value_at i held else None)
      told i = votes_at i (entries_from hi held) ∙ ap (λ (o : Option Value). option_map unballoted o) (value_at-entries_from hi held i)

  pub no_range : ((i : ℕ) → from ≤ i → value_at i held ≡ None) → learned_ranges (entries_from from held) ≡ []
  no_range none =
      ap (λ (l : List (ℕ × Cast)). map decided_of (ranges_of l)) (sym (seen_later from (omega arith)))
      ∙ ap (λ (l : List Voted). map decided_of l) (no_next from seen (λ i h. seen_at i h ∙ ap (λ (o : Option Value). option_map unballoted o) (none i h)))

  module _ (lo hi : ℕ) (value : Value) (run : IsNextRun held from lo hi value) where
    next : IsNextHeld seen from lo
    next =
        let there = run.begins.from_there in
        record {
          from_there = there;
          held = subst (λ (o : Option Cast). IsSome o) (sym (seen_at lo there)) (some_mapped (value_at lo held) run.begins.held);
          none_before = λ i a b. seen_at i a ∙ ap (λ (o : Option Value). option_map unballoted o) (run.begins.none_before i a b);
        }

    seen_equal : (j : ℕ) → lo ≤ j → j < hi → value_at j seen ≡ Some (unballoted value)
    seen_equal j a b =
        let there = run.begins.from_there in
        seen_at j (omega arith) ∙ ap (λ (o : Option Value). option_map unballoted o) (run.equal j a b)

    seen_here : value_at lo seen ≡ Some (unballoted value)
    seen_here = seen_equal lo (omega arith) run.some

    round : IsRunRound seen lo lo hi
    round =
        let there = run.begins.from_there in
        let some = run.some in
        record {
          begins = omega arith;
          ends = some;
          equal = λ j a b. seen_equal j a b ∙ sym seen_here;
          longest_below = λ j next same. elim (cases_lt j from) [
            | inl under ↦ let none = seen_below j under in let here = seen_here in absurd (cc)
            | inr above ↦
                let none = seen_at j above ∙ ap (λ (o : Option Value). option_map unballoted o) (run.begins.none_before j above (omega arith)) in
                let here = seen_here in
                absurd (cc)
          ];
          longest_above = λ same. run.longest (mapped_some (value_at hi held) value (sym (seen_at hi (omega arith)) ∙ same ∙ seen_here));
        }

    -- what the votes say of the first range
    first_told : (end : ℕ) (shared : Value) → (from < end) × (ranges_of (entries_from from seen) ≡ voted lo end (unballoted shared) ∷ ranges_of (entries_from end seen))
        → (from < end) × (learned_ranges (entries_from from held) ≡ (record { lo = lo; hi = end; value = shared }) ∷ learned_ranges (entries_from end held))
    first_told end shared is =
        let past = is.0 in (
          past,
          ap (λ (l : List (ℕ × Cast)). map decided_of (ranges_of l)) (sym (seen_later from (omega arith))) ∙ ap (λ (l : List Voted). map decided_of l) is.1
              ∙ ap (λ (l : List (ℕ × Cast)). decided_of (voted lo end (unballoted shared)) ∷ map decided_of (ranges_of l)) (seen_later end (omega arith)),
        )

    pub skips_first : (end : ℕ) (shared : Value) → value ≡ Skip → end ≡ hi → shared ≡ value → (from < end) × (learned_ranges (entries_from from held) ≡ (record { lo = lo; hi = end; value = shared }) ∷ learned_ranges (entries_from end held))
    skips_first end shared skip at same = first_told end shared (first_skips seen from lo lo hi end (unballoted value) shared seen_ordered next seen_here round skip at same)

    pub batch_first : (end : ℕ) (shared : Value) (batch : List ℕ) → value ≡ Batch batch → end ≡ lo + 1 → shared ≡ value → (from < end) × (learned_ranges (entries_from from held) ≡ (record { lo = lo; hi = end; value = shared }) ∷ learned_ranges (entries_from end held))
    batch_first end shared batch is at same = first_told end shared (first_batch seen from lo end (unballoted value) shared batch seen_ordered next seen_here is at same)

-- ---- values have spellings

pub value_spelled : (i : ℕ) (es : List (ℕ × Value)) (value : Value) → AllByRecursion IsLearned es → value_at i es ≡ Some value → IsSpelled value
value_spelled i [] value each is = absurd (cc)
value_spelled i (e ∷ es) value each is =
    elim (cases_eq i e.0) [
      | inl same ↦
          let here = value_here e es i same in
          let one : e.1 ≡ value = cc in
          subst (λ (v : Value). IsSpelled v) one each.0.1
      | inr ne ↦ value_spelled i es value each.1 (sym (value_later e es i ne) ∙ is)
    ]

-- ---- a page

module _ {T : Type 0} (size : T → ℕ) where
  pub front_more : (room : ℕ) (x : T) (xs : List T) → size x ≤ room → front_within size room (x ∷ xs) ≡ x ∷ front_within size (room - size x) xs
  front_more room x xs fits = rw (le-true (size x) room fits) refl

  pub front_full : (room : ℕ) (x : T) (xs : List T) → room < size x → front_within size room (x ∷ xs) ≡ []
  front_full room x xs full = rw (le-false (size x) room full) refl
