-- What is reported: where it ends, which vote stands, and where a batch or a learned instance is first.
use Rattle.std.proofs.Common.{◌≡◌, ℕ, zero, suc, ◌+◌, ◌-◌, ◌<◌, ◌≤◌, max, min, true, false, Bool, List, [], ◌∷◌, ◌++◌, refl, sym, ◌∙◌, ap, arith, inl, inr, append_assoc}
use Rattle.std.specs.Prelude.{Option, Some, None, IsSome, nat_lt, if◌then◌else◌}
use Rattle.std.proofs.lemmas.Bool.{cases_lt, cases_eq}
use Rattle.std.proofs.lemmas.Bool.Decides.{nat_tests}
use Rattle.mrp_types.specs.declared.value.Value.{Value}
use Rattle.mrp_types.specs.declared.value.Value.TheVariants.{Skip, Batch}
use Rattle.range_map.specs.Entries.{value_at, IsIncreasingFrom, entries_before, entries_from, IsNextHeld, IsNextRun}
use Rattle.range_map.proofs.SetLemmas.{le-true, le-false}
use Rattle.vote_state.specs.declared.cast.Cast.{Cast}
use Rattle.protocol.specs.Learner.{entries_within, past_front, met_over, with_met}
use Rattle.protocol.specs.Ballots.{higher}
use Rattle.protocol.specs.Proposing.{reported_to, first_where, is_batch, is_any}
use Rattle.range_map.proofs.EntryLemmas.{none_below, value_here, value_later}
use Rattle.ring_view.proofs.KeptLemmas.{later_from}

lt-true : (a b : ℕ) → a < b → nat_lt a b ≡ true
lt-true a b h = grind (arith, nat_tests)

lt-false : (a b : ℕ) → b ≤ a → nat_lt a b ≡ false
lt-false a b h = grind (arith, nat_tests)

-- ---- the first instance past all reports

past_both : (xs ys : List (ℕ × Cast)) → reported_to (xs ++ ys) ≡ max (reported_to xs) (reported_to ys)
past_both [] ys = omega arith
past_both (x ∷ xs) ys = let rest = past_both xs ys in omega arith

past_parts : (m : ℕ) (es : List (ℕ × Cast)) → (reported_to es ≡ max (reported_to (entries_before m es)) (reported_to (entries_from m es))) × (reported_to (entries_before m es) ≤ m)
past_parts m [] = (omega arith, omega arith)
past_parts m (e ∷ es) =
    let rest = past_parts m es in
    let same = rest.0 in
    let within = rest.1 in
    elim (cases_lt e.0 m) [
      | inl below ↦ rw (lt-true e.0 m below, le-false m e.0 below) (omega arith, omega arith)
      | inr above ↦ rw (lt-false e.0 m above, le-true m e.0 above) (omega arith, omega arith)
    ]

past_met : (met : Option Cast → Cast → Cast) (lo n : ℕ) (v : Cast) (es : List (ℕ × Cast)) → (n ≡ 0 → reported_to (met_over met lo n v es) ≡ 0) × (0 < n → reported_to (met_over met lo n v es) ≡ lo + n)
unfolding met_over
past_met met lo zero v es = (λ h. refl, λ h. absurd (omega arith))
past_met met lo (suc n) v es =
    let rest = past_met met (suc lo) n v (past_front lo es) in (
      λ h. absurd (omega arith),
      λ h. elim (cases_eq n 0) [
        | inl none ↦ let end = rest.0 none in omega arith
        | inr some ↦ let end = rest.1 (omega arith) in omega arith
      ],
    )

module _ (met : Option Cast → Cast → Cast) (lo hi : ℕ) (v : Cast) (es : List (ℕ × Cast)) where
  met_ends : reported_to (with_met met lo hi v es) ≡ max (reported_to (entries_before lo es)) (max (reported_to (met_over met lo (hi - lo) v (entries_within lo hi es))) (reported_to (entries_from (max lo hi) es)))
  met_ends =
      ap (λ (l : List (ℕ × Cast)). reported_to l) (append_assoc (entries_before lo es) (met_over met lo (hi - lo) v (entries_within lo hi es)) (entries_from (max lo hi) es))
      ∙ past_both (entries_before lo es) (met_over met lo (hi - lo) v (entries_within lo hi es) ++ entries_from (max lo hi) es)
      ∙ ap (λ (n : ℕ). max (reported_to (entries_before lo es)) n) (past_both (met_over met lo (hi - lo) v (entries_within lo hi es)) (entries_from (max lo hi) es))

  -- a range that isn't empty is among the reports then
  reports_reach : lo < hi → max (reported_to es) hi ≡ reported_to (with_met met lo hi v es)
  reports_reach some =
      let ends = met_ends in
      let over = (past_met met lo (hi - lo) v (entries_within lo hi es)).1 (omega arith) in
      let split = past_parts lo es in
      let first = split.0 in
      let inner = past_parts hi (entries_from lo es) in
      let second = inner.0 in
      let within = inner.1 in
      let top : max lo hi ≡ hi = omega arith in
      let above : reported_to (entries_from hi (entries_from lo es)) ≡ reported_to (entries_from (max lo hi) es) =
      ap (λ (l : List (ℕ × Cast)). reported_to l) (later_from hi lo es (omega arith)) ∙ ap (λ (n : ℕ). reported_to (entries_from n es)) (sym top) in
      omega arith

  reports_stay : hi ≤ lo → reported_to es ≡ reported_to (with_met met lo hi v es)
  reports_stay none =
      let ends = met_ends in
      let over = (past_met met lo (hi - lo) v (entries_within lo hi es)).0 (omega arith) in
      let split = past_parts lo es in
      let first = split.0 in
      let top : max lo hi ≡ lo = omega arith in
      let above : reported_to (entries_from lo es) ≡ reported_to (entries_from (max lo hi) es) = ap (λ (n : ℕ). reported_to (entries_from n es)) (sym top) in
      omega arith

  pub reports_end : (if nat_lt lo hi then max (reported_to es) hi else reported_to es) ≡ reported_to (with_met met lo hi v es)
  reports_end = elim (cases_lt lo hi) [
    | inl some ↦ rw (lt-true lo hi some) (reports_reach some)
    | inr none ↦ rw (lt-false lo hi none) (reports_stay none)
  ]

-- ---- the vote of the higher ballot

pub lower_gives_way : (o : Option Cast) (held cast : Cast) → o ≡ Some held → held.ballot < cast.ballot → higher o cast ≡ cast
lower_gives_way o held cast is less = rw (is, lt-true held.ballot cast.ballot less) refl

pub none_gives_way : (o : Option Cast) (cast : Cast) → o ≡ None → higher o cast ≡ cast
none_gives_way o cast is = rw is refl

pub higher_stays : (o : Option Cast) (held cast : Cast) → o ≡ Some held → cast.ballot ≤ held.ballot → o ≡ Some (higher o cast)
higher_stays o held cast is more = rw (is, lt-false held.ballot cast.ballot more) refl

-- ---- the first entry that passes a test

module _ {T : Type 0} (test : T → Bool) (bound : ℕ) where
  -- where none passes in between, it is the first from a later instance on
  pub first_later : (from to k : ℕ) (es : List (ℕ × T)) → IsIncreasingFrom k es → from ≤ to → ((i : ℕ) (x : T) → from ≤ i → i < to → value_at i es ≡ Some x → test x ≡ false)
      → first_where test from bound es ≡ first_where test to bound es
  unfolding first_where
  first_later from to k [] p up fails = refl
  first_later from to k (e ∷ es) p up fails =
      let rest : first_where test from bound es ≡ first_where test to bound es =
      first_later from to (suc e.0) es p.1 up (λ i x a b is. fails i x a b (elim (cases_eq i e.0) [
        | inl same ↦ let none = none_below (suc e.0) es i p.1 (omega arith) in absurd (cc)
        | inr ne ↦ value_later e es i ne ∙ is
      ])) in
      elim (cases_lt e.0 from) [
        | inl below ↦ rw (le-false from e.0 below, le-false to e.0 (omega arith)) rest
        | inr above ↦ elim (cases_lt e.0 to) [
          | inl under ↦ rw (le-true from e.0 above, le-false to e.0 under, fails e.0 e.1 above under (value_here e es e.0 refl)) rest
          | inr past ↦ rw (le-true from e.0 above, le-true to e.0 past) (by (test e.1) rest)
        ]
      ]
    where
      by : (b : Bool) → first_where test from bound es ≡ first_where test to bound es → (if b then min e.0 bound else first_where test from bound es) ≡ (if b then min e.0 bound else first_where test to bound es)
      by true rest = refl
      by false rest = rest

  first_here : (at k : ℕ) (x : T) (es : List (ℕ × T)) → IsIncreasingFrom k es → value_at at es ≡ Some x → test x ≡ true → first_where test at bound es ≡ min at bound
  unfolding first_where
  first_here at k x [] p is passes = absurd (cc)
  first_here at k x (e ∷ es) p is passes =
      elim (cases_eq at e.0) [
        | inl same ↦
            let here = value_here e es at same in
            let one : e.1 ≡ x = cc in
            let pass : test e.1 ≡ true = ap (λ (y : T). test y) one ∙ passes in
            rw (le-true at e.0 (omega arith), pass) (ap (λ (n : ℕ). min n bound) (sym same))
        | inr ne ↦
            let later : value_at at es ≡ Some x = sym (value_later e es at ne) ∙ is in
            elim (cases_lt at e.0) [
              | inl below ↦ let none = none_below (suc e.0) es at p.1 (omega arith) in absurd (cc)
              | inr above ↦ rw (le-false at e.0 (omega arith)) (first_here at (suc e.0) x es p.1 later passes)
            ]
      ]

  first_never : (from k : ℕ) (es : List (ℕ × T)) → IsIncreasingFrom k es → ((i : ℕ) → from ≤ i → value_at i es ≡ None) → first_where test from bound es ≡ bound
  unfolding first_where
  first_never from k [] p none = refl
  first_never from k (e ∷ es) p none =
      elim (cases_lt e.0 from) [
        | inl below ↦ rw (le-false from e.0 below) (first_never from (suc e.0) es p.1 (λ i a. elim (cases_eq i e.0) [
          | inl same ↦ none_below (suc e.0) es i p.1 (omega arith)
          | inr ne ↦ sym (value_later e es i ne) ∙ none i a
        ]))
        | inr above ↦ let here = value_here e es e.0 refl in let no = none e.0 above in absurd (cc)
      ]

  pub first_found : (from at : ℕ) (x : T) (es : List (ℕ × T)) → IsIncreasingFrom 0 es → from ≤ at → ((i : ℕ) → from ≤ i → i < at → value_at i es ≡ None) → value_at at es ≡ Some x → test x ≡ true
      → min at bound ≡ first_where test from bound es
  first_found from at x es p up none is passes =
      sym (first_later from at 0 es p up (λ i y a b some. let no = none i a b in absurd (cc)) ∙ first_here at 0 x es p is passes)

  pub none_found : (from : ℕ) (es : List (ℕ × T)) → IsIncreasingFrom 0 es → ((i : ℕ) → from ≤ i → value_at i es ≡ None) → bound ≡ first_where test from bound es
  none_found from es p none = sym (first_never from 0 es p none)

-- past the bound nothing counts
pub first_past : {T : Type 0} (test : T → Bool) (from bound : ℕ) (es : List (ℕ × T)) → bound ≤ from → bound ≡ first_where test from bound es
unfolding first_where
first_past test from bound [] past = refl
first_past test from bound (e ∷ es) past =
    elim (cases_lt e.0 from) [
      | inl below ↦ rw (le-false from e.0 below) (first_past test from bound es past)
      | inr above ↦ rw (le-true from e.0 above) (by (test e.1) above (first_past test from bound es past))
    ]
  where
    by : (b : Bool) → from ≤ e.0 → bound ≡ first_where test from bound es → bound ≡ (if b then min e.0 bound else first_where test from bound es)
    by true above rest = omega arith
    by false above rest = rest

-- ---- runs of reports

pub batch_found : (from bound lo hi : ℕ) (cast : Cast) (batch : List ℕ) (es : List (ℕ × Cast)) → IsIncreasingFrom 0 es → IsNextRun es from lo hi cast → cast.value ≡ Batch batch
    → min lo bound ≡ first_where is_batch from bound es
batch_found from bound lo hi cast batch es p run is =
    let up = run.begins.from_there in
    let some = run.some in
    first_found is_batch bound from lo cast es p up run.begins.none_before (run.equal lo (omega arith) some) (rw is refl)

pub skips_passed : (from bound lo hi : ℕ) (cast : Cast) (es : List (ℕ × Cast)) → IsIncreasingFrom 0 es → IsNextRun es from lo hi cast → cast.value ≡ Skip
    → first_where is_batch hi bound es ≡ first_where is_batch from bound es
skips_passed from bound lo hi cast es p run is =
    let up = run.begins.from_there in
    let some = run.some in
    sym (first_later is_batch bound from hi 0 es p (omega arith) (λ i x a b told. elim (cases_lt i lo) [
      | inl before ↦ let none = run.begins.none_before i a before in absurd (cc)
      | inr later ↦ let one = run.equal i later b in let same : cast ≡ x = cc in ap (λ (c : Cast). is_batch c) (sym same) ∙ rw is refl
    ]))

-- ---- what is learned

held_value : (o : Option Value) → IsSome o → (value : Value) × (o ≡ Some value)
held_value None some = absurd (cc)
held_value (Some value) some = (value, refl)

pub learned_found : (from bound next : ℕ) (es : List (ℕ × Value)) → IsIncreasingFrom 0 es → IsNextHeld es from next → min next bound ≡ first_where is_any from bound es
learned_found from bound next es p is =
    let some = held_value (value_at next es) is.held in
    first_found is_any bound from next some.0 es p is.from_there is.none_before some.1 refl
