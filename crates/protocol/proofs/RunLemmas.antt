-- Runs of due Skips.
use Rattle.std.proofs.Common.{◌≡◌, ℕ, suc, ◌+◌, ◌<◌, ◌≤◌, min, true, false, Bool, ◌||◌, List, [], ◌∷◌, refl, sym, ◌∙◌, ap, subst, arith, inl, inr}
use Rattle.std.specs.Prelude.{◌⊎◌, Option, Some, None, IsSome, not, nat_lt}
use Rattle.std.proofs.lemmas.Bool.{cases_lt, cases_eq}
use Rattle.std.proofs.lemmas.Bool.Decides.{nat_tests}
use Rattle.mrp_types.specs.declared.value.Value.{Value}
use Rattle.mrp_types.specs.declared.value.Value.TheVariants.{Skip, Batch}
use Rattle.mrp_types.specs.Values.{is_skip}
use Rattle.range_map.specs.Entries.{value_at, IsIncreasingFrom}
use Rattle.range_map.proofs.SetLemmas.{le-true, le-false}
use Rattle.range_map.proofs.EntryLemmas.{none_below, lt-true, lt-false, value_here, value_later}
use Rattle.vote_state.specs.declared.cast.Cast.{Cast}
use Rattle.protocol.specs.Parts.{Ring, Campaign}
use Rattle.protocol.specs.Ballots.{covered_to, leads_now}
use Rattle.protocol.specs.Proposing.{reported_to, due_by, first_where, is_batch, is_any, gaps_to, run_end}
use Rattle.protocol.specs.Meaning.{IsDueSkip, IsLongestRun}
use Rattle.protocol.proofs.CoverLemmas.{covers}

-- ---- the first entry that passes a test

abbrev Passes : {T : Type 0} → (T → Bool) → Option T → Type 0
Passes test None = ⊥
Passes test (Some x) = test x ≡ true

abbrev Fails : {T : Type 0} → (T → Bool) → Option T → Type 0
Fails test None = Unit {0}
Fails test (Some x) = test x ≡ false

record IsFirst {T : Type 0} (test : T → Bool) (from bound : ℕ) (es : List (ℕ × T)) (end : ℕ) : Type 0 where
  within : end ≤ bound
  after : from ≤ bound → from ≤ end
  before : (i : ℕ) → from ≤ i → i < end → Fails test (value_at i es)
  stops : (end ≡ bound) ⊎ Passes test (value_at end es)

module _ {T : Type 0} (test : T → Bool) (from bound : ℕ) where
  -- an entry is below all later ones
  skipped : (e : ℕ × T) (es : List (ℕ × T)) (end : ℕ) → IsIncreasingFrom (suc e.0) es → (from ≤ e.0 → test e.1 ≡ false) → IsFirst test from bound es end
      → IsFirst test from bound (e ∷ es) end
  skipped e es end p fails is = record {
    within = is.within;
    after = is.after;
    before = λ i a b. elim (cases_eq i e.0) [
      | inl same ↦ subst (λ (o : Option T). Fails test o) (sym (value_here e es i same)) (fails (omega arith))
      | inr ne ↦ subst (λ (o : Option T). Fails test o) (sym (value_later e es i ne)) (is.before i a b)
    ];
    stops = go is.stops (cases_eq end e.0);
  }
    where
      go : (end ≡ bound) ⊎ Passes test (value_at end es) → (end ≡ e.0) ⊎ (end ≡ e.0 → ⊥) → (end ≡ bound) ⊎ Passes test (value_at end (e ∷ es))
      go (inl same) any = inl same
      go (inr passes) (inr ne) = inr (subst (λ (o : Option T). Passes test o) (sym (value_later e es end ne)) passes)
      go (inr passes) (inl here) =
          absurd (subst (λ (o : Option T). Passes test o) (none_below (suc e.0) es end p (omega arith)) passes)

  is_first : (k : ℕ) (es : List (ℕ × T)) → IsIncreasingFrom k es → IsFirst test from bound es (first_where test from bound es)
  unfolding first_where
  is_first k [] p = record { within = omega arith; after = λ h. h; before = λ i a b. tt; stops = inl refl }
  is_first k (e ∷ es) p = go (test e.1) refl (cases_lt e.0 from) (is_first (suc e.0) es p.1)
    where
      go : (b : Bool) → b ≡ test e.1 → (e.0 < from) ⊎ (from ≤ e.0) → IsFirst test from bound es (first_where test from bound es) → IsFirst test from bound (e ∷ es) (first_where test from bound (e ∷ es))
      go b same (inl below) later =
          rw (le-false from e.0 below) (skipped e es (first_where test from bound es) p.1 (λ a. absurd (omega arith)) later)
      go false same (inr above) later =
          rw (le-true from e.0 above, sym same) (skipped e es (first_where test from bound es) p.1 (λ a. sym same) later)
      go true same (inr above) later =
          rw (le-true from e.0 above, sym same) (record {
            within = omega arith;
            after = λ h. omega arith;
            before = λ i a b.
                let under : i < e.0 = omega arith in
                let ne : (i ≡ e.0 → ⊥) = omega arith in
                subst (λ (o : Option T). Fails test o) (sym (value_later e es i ne ∙ none_below (suc e.0) es i p.1 (omega arith))) tt;
            stops = elim (cases_lt bound e.0) [
              | inl less ↦ inl (omega arith)
              | inr more ↦ inr (subst (λ (o : Option T). Passes test o) (sym (value_here e es (min e.0 bound) (omega arith))) (sym same))
            ];
          })

-- ---- reports

last_reported : (es : List (ℕ × Cast)) (i : ℕ) → suc i ≡ reported_to es → IsSome (value_at i es)
last_reported [] i h = absurd (omega arith)
last_reported (e ∷ es) i h = go (cases_eq i e.0) (last_reported es i)
  where
    go : (i ≡ e.0) ⊎ (i ≡ e.0 → ⊥) → (suc i ≡ reported_to es → IsSome (value_at i es)) → IsSome (value_at i (e ∷ es))
    go (inl here) later = subst (λ (o : Option Cast). IsSome o) (sym (value_here e es i here)) refl
    go (inr ne) later = subst (λ (o : Option Cast). IsSome o) (sym (value_later e es i ne)) (later (omega arith))

none_reported : (es : List (ℕ × Cast)) (i : ℕ) → reported_to es ≤ i → value_at i es ≡ None
none_reported [] i h = refl
none_reported (e ∷ es) i h =
    let ne : (i ≡ e.0 → ⊥) = omega arith in
    value_later e es i ne ∙ none_reported es i (omega arith)

-- ---- what is due

skips : (value : Value) → not (is_skip value) ≡ false → value ≡ Skip
skips Skip h = refl
skips (Batch b) h = absurd (cc)

batches : (value : Value) → not (is_skip value) ≡ true → value ≡ Skip → ⊥
batches Skip h same = cc
batches (Batch b) h same = cc

due_skip : (o : Option Cast) (gap : Bool) → Fails is_batch o → (o ≡ None → gap ≡ true) → due_by o gap ≡ Some Skip
due_skip None gap fails there = rw (there refl) refl
due_skip (Some cast) gap fails there = ap (λ (v : Value). Some v) (skips cast.value fails)

value_is : (x y : Value) → Some x ≡ Some y → x ≡ y
value_is x y h = cc

not_due : (o : Option Cast) (gap : Bool) → Passes is_batch o → due_by o gap ≡ Some Skip → ⊥
not_due None gap passes due = passes
not_due (Some cast) gap passes due = batches cast.value passes (value_is cast.value Skip due)

none_due : due_by None false ≡ Some Skip → ⊥
none_due due = cc

unheld : (o : Option Value) → Fails is_any o → o ≡ None
unheld None fails = refl
unheld (Some value) fails = absurd (cc)

-- ---- the run

module _ (ring : Ring) (campaign : Campaign) (held : List (ℕ × Value)) (p : IsIncreasingFrom 0 campaign.reports) (q : IsIncreasingFrom 0 held) where
  abbrev most : ℕ
  most = campaign.next + 65536

  abbrev covered : ℕ
  covered = covered_to ring campaign.covered

  abbrev reported : ℕ
  reported = reported_to campaign.reports

  abbrev leads : Bool
  leads = leads_now ring campaign

  abbrev bound : ℕ
  bound = min most (gaps_to leads reported covered)

  abbrev to_batch : ℕ
  to_batch = first_where is_batch campaign.next bound campaign.reports

  by_reports : IsFirst is_batch campaign.next bound campaign.reports to_batch
  by_reports = is_first is_batch campaign.next bound 0 campaign.reports p

  by_held : IsFirst is_any campaign.next to_batch held (run_end ring campaign held)
  by_held = is_first is_any campaign.next to_batch 0 held q

  within_covered : (b : Bool) (r c : ℕ) → gaps_to b r c ≤ c
  within_covered true r c = omega arith
  within_covered false r c = omega arith

  gap : (b : Bool) (i : ℕ) → i < gaps_to b reported covered → value_at i campaign.reports ≡ None → (not b || nat_lt (suc i) reported) ≡ true
  gap false i h none = refl
  gap true i h none = go (cases_lt (suc i) reported)
    where
      go : (suc i < reported) ⊎ (reported ≤ suc i) → nat_lt (suc i) reported ≡ true
      go (inl less) = lt-true (suc i) reported less
      go (inr more) =
          let last : suc i ≡ reported = omega arith in
          let some = subst (λ (o : Option Cast). IsSome o) none (last_reported campaign.reports i last) in
          absurd (cc)

  each : (i : ℕ) → campaign.next ≤ i → i < run_end ring campaign held → IsDueSkip ring campaign held i
  each i a b =
      let first = by_held.within in
      let second = by_reports.within in
      let gaps = within_covered leads reported covered in
      record {
        covered = (covers ring campaign.covered i).0 (omega arith);
        unlearned = unheld (value_at i held) (by_held.before i a b);
        due = due_skip (value_at i campaign.reports) (not leads || nat_lt (suc i) reported) (by_reports.before i a (omega arith)) (λ none. gap leads i (omega arith) none);
      }

  -- at the end of what may be covered no Skip is due
  past_gaps : (b : Bool) → b ≡ leads → (end : ℕ) → gaps_to b reported covered ≤ end → IsDueSkip ring campaign held end → ⊥
  past_gaps false same end at is = let under = (covers ring campaign.covered end).1 is.covered in omega arith
  past_gaps true same end at is = go (cases_lt reported covered)
    where
      go : (reported < covered) ⊎ (covered ≤ reported) → ⊥
      go (inr all) = let under = (covers ring campaign.covered end).1 is.covered in omega arith
      go (inl less) =
          let here : reported ≤ end = omega arith in
          let none = none_reported campaign.reports end (omega arith) in
          let closed : (not leads || nat_lt (suc end) reported) ≡ false = rw (sym same, lt-false (suc end) reported (omega arith)) refl in
          none_due (ap (λ (x : Option Cast). due_by x false) (sym none) ∙ ap (due_by (value_at end campaign.reports)) (sym closed) ∙ is.due)

  longest : (end : ℕ) → end ≡ run_end ring campaign held → (end ≡ most) ⊎ (IsDueSkip ring campaign held end → ⊥)
  longest end at = by_learned by_held.stops by_reports.stops
    where
      by_bound : end ≡ bound → (most ≤ gaps_to leads reported covered) ⊎ (gaps_to leads reported covered < most) → (end ≡ most) ⊎ (IsDueSkip ring campaign held end → ⊥)
      by_bound same (inl full) = inl (omega arith)
      by_bound same (inr less) = inr (past_gaps leads refl end (omega arith))

      turned : (gaps_to leads reported covered < most) ⊎ (most ≤ gaps_to leads reported covered) → (most ≤ gaps_to leads reported covered) ⊎ (gaps_to leads reported covered < most)
      turned (inl x) = inr x
      turned (inr x) = inl x

      by_learned : (run_end ring campaign held ≡ to_batch) ⊎ Passes is_any (value_at (run_end ring campaign held) held) → (to_batch ≡ bound) ⊎ Passes is_batch (value_at to_batch campaign.reports)
          → (end ≡ most) ⊎ (IsDueSkip ring campaign held end → ⊥)
      by_learned (inr learned) any = inr (λ is. subst (λ (o : Option Value). Passes is_any o) (ap (λ x. value_at x held) (sym at) ∙ is.unlearned) learned)
      by_learned (inl same) (inr batch) = inr (λ is.
          not_due (value_at end campaign.reports) (not leads || nat_lt (suc end) reported)
          (subst (λ x. Passes is_batch (value_at x campaign.reports)) (sym (at ∙ same)) batch) is.due)
      by_learned (inl same) (inl to) = by_bound (at ∙ same ∙ to) (turned (cases_lt (gaps_to leads reported covered) most))

  -- where a Skip is due at next the run reaches it
  reaches : IsDueSkip ring campaign held campaign.next → campaign.next ≤ run_end ring campaign held
  reaches is = go (cases_lt campaign.next (gaps_to leads reported covered))
    where
      go : (campaign.next < gaps_to leads reported covered) ⊎ (gaps_to leads reported covered ≤ campaign.next) → campaign.next ≤ run_end ring campaign held
      go (inl less) = by_held.after (by_reports.after (omega arith))
      go (inr more) = absurd (past_gaps leads refl campaign.next more is)

  begins : IsDueSkip ring campaign held campaign.next → campaign.next < run_end ring campaign held
  begins is = go (longest (run_end ring campaign held) refl) (cases_lt campaign.next (run_end ring campaign held)) (reaches is)
    where
      go : (run_end ring campaign held ≡ most) ⊎ (IsDueSkip ring campaign held (run_end ring campaign held) → ⊥) →
          (campaign.next < run_end ring campaign held) ⊎ (run_end ring campaign held ≤ campaign.next) → campaign.next ≤ run_end ring campaign held → campaign.next < run_end ring campaign held
      go any (inl less) there = less
      go (inl full) (inr more) there = omega arith
      go (inr not) (inr more) there =
          let same : campaign.next ≡ run_end ring campaign held = omega arith in
          absurd (not (subst (λ (i : ℕ). IsDueSkip ring campaign held i) same is))

  pub is_longest_run : IsLongestRun ring campaign held (run_end ring campaign held)
  is_longest_run =
      let first = by_held.within in
      let second = by_reports.within in
      record {
        begins = begins;
        each = each;
        few = omega arith;
        longest = longest (run_end ring campaign held) refl;
      }
