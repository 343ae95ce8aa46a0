-- Votes as maximal ranges.
use Rattle.std.proofs.Common.{◌≡◌, ℕ, zero, suc, ◌+◌, ◌-◌, ◌<◌, ◌≤◌, true, false, Bool, ◌&&◌, List, [], ◌∷◌, ◌++◌, refl, sym, ◌∙◌, ap, subst, arith, inl, inr}
use Rattle.std.specs.Prelude.{◌≢◌, Option, Some, None, nat_eq, nat_le, nat_lt, if◌then◌else◌}
use Rattle.std.proofs.lemmas.Bool.{cases_lt}
use Rattle.std.proofs.lemmas.Bool.Decides.{nat_tests}
use Rattle.mrp_types.specs.declared.value.Value.{Value}
use Rattle.mrp_types.specs.declared.value.Value.TheVariants.{Skip, Batch}
use Rattle.range_map.specs.Entries.{value_at, IsIncreasingFrom, entries_from, spread_over, IsNextHeld, IsRunRound}
use Rattle.range_map.proofs.RunsLemmas.{within-true, within-below, within-above}
use Rattle.range_map.proofs.SetLemmas.{le-true, le-false}
use Rattle.range_map.proofs.EntryLemmas.{increasing_weaker, same_entries, value_at-spread_over, increasing_spread_over, value_at-entries_from, increasing_entries_from, value_later, value_here, eq-true, eq-from}
use Rattle.mrp_types.proofs.TestLemmas.{both}
use Rattle.vote_state.specs.declared.cast.Cast.{Cast}
use Rattle.mrp_types.specs.declared.voted.Voted.{Voted}
use Rattle.vote_state.specs.Ranges.{cast_of, voted, is_one, vote_before, ranges_of}
use Rattle.mrp_types.specs.Values.{is_skip}

-- ---- ranges that are one

skip_from : (v : Value) → is_skip v ≡ true → v ≡ Skip
skip_from Skip h = refl
skip_from (Batch b) h = absurd (cc)

pub cast_eq : (a b : Cast) → a.ballot ≡ b.ballot → a.value ≡ b.value → a ≡ b
cast_eq a b p q =
    ap (λ (n : ℕ). let c : Cast = record { ballot = n; value = a.value } in c) p ∙ ap (λ (v : Value). let c : Cast = record { ballot = b.ballot; value = v } in c) q

pub record Touches (end : ℕ) (cast : Cast) (next : Voted) : Type 0 where
  pub at : end ≡ next.lo
  pub same : cast ≡ cast_of next
  pub skip : is_skip cast.value ≡ true

pub one_from : (end : ℕ) (cast : Cast) (next : Voted) → is_one end cast next ≡ true → Touches end cast next
one_from end cast next h =
    let first = both (nat_eq end next.lo) _ h in
    let second = both (nat_eq cast.ballot next.ballot) _ first.1 in
    let third = both (is_skip cast.value) _ second.1 in
    record {
      at = eq-from end next.lo first.0;
      same = cast_eq cast (cast_of next) (eq-from cast.ballot next.ballot second.0) (skip_from cast.value third.0 ∙ sym (skip_from next.value third.1));
      skip = third.0;
    }

pub one_to : (end : ℕ) (cast : Cast) (next : Voted) → end ≡ next.lo → cast ≡ cast_of next → is_skip cast.value ≡ true → is_one end cast next ≡ true
one_to end cast next at same skip =
    let ballots : cast.ballot ≡ next.ballot = ap (λ (c : Cast). c.ballot) same in
    let value : is_skip next.value ≡ true = ap (λ (c : Cast). is_skip c.value) (sym same) ∙ skip in
    rw (eq-true end next.lo at, eq-true cast.ballot next.ballot ballots, skip, value) refl

pub not_true : (b : Bool) → (b ≡ true → ⊥) → b ≡ false
not_true true h = absurd (h refl)
not_true false h = refl

-- the first range begins at an instance and has its vote
BeginsAt : ℕ → Cast → List Voted → Type 0
BeginsAt i cast [] = ⊥
BeginsAt i cast (range ∷ ranges) = (range.lo ≡ i) × (cast_of range ≡ cast)

begins : (i : ℕ) (cast : Cast) (ranges : List Voted) → BeginsAt i cast (vote_before i cast ranges)
unfolding BeginsAt
begins i cast [] = (refl, refl)
begins i cast (next ∷ ranges) = chosen (is_one (suc i) cast next)
  where
    chosen : (b : Bool) → BeginsAt i cast (if b then voted i next.hi cast ∷ ranges else voted i (suc i) cast ∷ next ∷ ranges)
    chosen true = (refl, refl)
    chosen false = (refl, refl)

kept_apart : (i : ℕ) (cast : Cast) (k : ℕ) (first : Cast) (ranges : List Voted) → BeginsAt k first ranges → (suc i ≡ k → cast ≡ first → ⊥) → vote_before i cast ranges ≡ voted i (suc i) cast ∷ ranges
unfolding BeginsAt
kept_apart i cast k first [] b no_one = absurd b
kept_apart i cast k first (next ∷ ranges) b no_one =
    let at = b.0 in
    let of = b.1 in
    let apart : is_one (suc i) cast next ≡ false = not_true (is_one (suc i) cast next) (λ one. let t = one_from (suc i) cast next one in no_one (t.at ∙ at) (t.same ∙ of)) in
    rw apart refl

-- a vote isn't joined to what follows it, where that doesn't begin with the same vote
unjoined : (i : ℕ) (cast : Cast) (rest : List (ℕ × Cast)) → value_at (suc i) rest ≢ Some cast → vote_before i cast (ranges_of rest) ≡ voted i (suc i) cast ∷ ranges_of rest
unfolding ranges_of
unjoined i cast [] differs = refl
unjoined i cast (e ∷ es) differs =
    kept_apart i cast e.0 e.1 (vote_before e.0 e.1 (ranges_of es)) (begins e.0 e.1 (ranges_of es)) (λ at same. differs (value_here e es (suc i) at ∙ ap (λ (c : Cast). Some c) (sym same)))

-- a batch isn't joined to anything
batch_alone : (i : ℕ) (cast : Cast) (ranges : List Voted) → is_skip cast.value ≡ false → vote_before i cast ranges ≡ voted i (suc i) cast ∷ ranges
batch_alone i cast [] batch = refl
batch_alone i cast (next ∷ ranges) batch =
    let apart : is_one (suc i) cast next ≡ false = not_true (is_one (suc i) cast next) (λ one. let t = one_from (suc i) cast next one in let skip = t.skip in absurd (cc)) in
    rw apart refl

-- equal votes for Skip are one range
skips : (lo n hi : ℕ) (cast : Cast) (rest : List (ℕ × Cast)) → hi ≡ suc (lo + n) → is_skip cast.value ≡ true → value_at hi rest ≢ Some cast → ranges_of (spread_over lo (suc n) cast ++ rest) ≡ voted lo hi cast ∷ ranges_of rest
unfolding ranges_of spread_over
skips lo zero hi cast rest end skip differs =
    let at : suc lo ≡ hi = omega arith in
    unjoined lo cast rest (subst (λ x. value_at x rest ≢ Some cast) (sym at) differs) ∙ ap (λ (x : ℕ). voted lo x cast ∷ ranges_of rest) at
skips lo (suc n) hi cast rest end skip differs =
    let more = skips (suc lo) n hi cast rest (omega arith) skip differs in
    let one = one_to (suc lo) cast (voted (suc lo) hi cast) refl refl skip in
    ap (λ (ranges : List Voted). vote_before lo cast ranges) more ∙ rw one refl

-- ---- the first range of the votes from an instance on

-- the votes from an instance on are equal ones up to some end, and those from there on
parted : (es : List (ℕ × Cast)) (from lo hi : ℕ) (cast : Cast) → IsIncreasingFrom 0 es → IsNextHeld es from lo → lo < hi → ((j : ℕ) → lo ≤ j → j < hi → value_at j es ≡ Some cast)
    → entries_from from es ≡ spread_over lo (hi - lo) cast ++ entries_from hi es
parted es from lo hi cast ordered next pos equal =
    let end : lo + (hi - lo) ≡ hi = omega arith in
    same_entries 0 (entries_from from es) (spread_over lo (hi - lo) cast ++ entries_from hi es)
    (increasing_entries_from 0 from 0 es ordered (inl (omega arith)))
    (weaker (increasing_spread_over lo (hi - lo) cast (entries_from hi es) (subst (λ x. IsIncreasingFrom x (entries_from hi es)) (sym end) (increasing_entries_from 0 hi hi es ordered (inr (omega arith))))))
    (λ i. value_at-entries_from from es i ∙ at i ∙ sym (value_at-spread_over lo (hi - lo) cast (entries_from hi es) i ∙ tail i ∙ ap (λ x. if nat_le lo i && nat_lt i x then Some cast else (if nat_le hi i then value_at i es else None)) end))
  where
    weaker : IsIncreasingFrom lo (spread_over lo (hi - lo) cast ++ entries_from hi es) → IsIncreasingFrom 0 (spread_over lo (hi - lo) cast ++ entries_from hi es)
    weaker p = increasing_weaker 0 lo (spread_over lo (hi - lo) cast ++ entries_from hi es) (omega arith) p

    tail : (i : ℕ) → (if nat_le lo i && nat_lt i (lo + (hi - lo)) then Some cast else value_at i (entries_from hi es)) ≡ (if nat_le lo i && nat_lt i (lo + (hi - lo)) then Some cast else (if nat_le hi i then value_at i es else None))
    tail i = ap (λ (o : Option Cast). if nat_le lo i && nat_lt i (lo + (hi - lo)) then Some cast else o) (value_at-entries_from hi es i)

    at : (i : ℕ) → (if nat_le from i then value_at i es else None) ≡ (if nat_le lo i && nat_lt i hi then Some cast else (if nat_le hi i then value_at i es else None))
    at i =
        let there = next.from_there in
        elim (cases_lt i lo) [
          | inl below ↦ rw (within-below lo hi i below, le-false hi i (omega arith)) (elim (cases_lt i from) [
            | inl before ↦ rw (le-false from i before) refl
            | inr past ↦ rw (le-true from i past) (next.none_before i past below)
          ])
          | inr begun ↦ rw (le-true from i (omega arith)) (elim (cases_lt i hi) [
            | inl inside ↦ rw (within-true lo hi i begun inside) (equal i begun inside)
            | inr above ↦ rw (within-above lo hi i above, le-true hi i above) refl
          ])
        ]

from_end : (es : List (ℕ × Cast)) (hi : ℕ) → value_at hi (entries_from hi es) ≡ value_at hi es
from_end es hi = value_at-entries_from hi es hi ∙ rw (le-true hi hi (omega arith)) refl

next_skips : (es : List (ℕ × Cast)) (from lo begin hi : ℕ) (cast : Cast) → IsIncreasingFrom 0 es → IsNextHeld es from lo → value_at lo es ≡ Some cast → IsRunRound es lo begin hi → cast.value ≡ Skip
    → (from < hi) × (ranges_of (entries_from from es) ≡ voted lo hi cast ∷ ranges_of (entries_from hi es))
unfolding ranges_of
next_skips es from lo begin hi cast ordered next held run skip =
    let there = next.from_there in
    let ends = run.ends in
    let n : hi - lo ≡ suc (hi - suc lo) = omega arith in
    let differs : value_at hi (entries_from hi es) ≢ Some cast = λ same. run.longest_above (sym (from_end es hi) ∙ same ∙ sym held) in
    let begins = run.begins in
    let equal : (j : ℕ) → lo ≤ j → j < hi → value_at j es ≡ Some cast = λ j a b. run.equal j (omega arith) b ∙ held in (
      omega arith,
      ap (λ (x : List (ℕ × Cast)). ranges_of x) (parted es from lo hi cast ordered next ends equal ∙ ap (λ k. spread_over lo k cast ++ entries_from hi es) n)
          ∙ skips lo (hi - suc lo) hi cast (entries_from hi es) (omega arith) (ap is_skip skip) differs,
    )

next_batch : (es : List (ℕ × Cast)) (from lo : ℕ) (cast : Cast) → IsIncreasingFrom 0 es → IsNextHeld es from lo → value_at lo es ≡ Some cast → is_skip cast.value ≡ false
    → (from < lo + 1) × (ranges_of (entries_from from es) ≡ voted lo (lo + 1) cast ∷ ranges_of (entries_from (lo + 1) es))
unfolding ranges_of spread_over
next_batch es from lo cast ordered next held batch =
    let there = next.from_there in
    let one : (lo + 1) - lo ≡ suc zero = omega arith in
    let end : suc lo ≡ lo + 1 = omega arith in
    let equal : (j : ℕ) → lo ≤ j → j < lo + 1 → value_at j es ≡ Some cast = λ j a b. let same : j ≡ lo = omega arith in ap (λ x. value_at x es) same ∙ held in (
      omega arith,
      ap (λ (x : List (ℕ × Cast)). ranges_of x) (parted es from lo (lo + 1) cast ordered next (omega arith) equal ∙ ap (λ k. spread_over lo k cast ++ entries_from (lo + 1) es) one)
          ∙ batch_alone lo cast (ranges_of (entries_from (lo + 1) es)) batch ∙ ap (λ x. voted lo x cast ∷ ranges_of (entries_from (lo + 1) es)) end,
    )

none_from : (from : ℕ) (es : List (ℕ × Cast)) → ((i : ℕ) → from ≤ i → value_at i es ≡ None) → entries_from from es ≡ []
none_from from [] none = refl
none_from from (e ∷ es) none =
    elim (cases_lt e.0 from) [
      | inl below ↦ rw (le-false from e.0 below) (none_from from es (λ i past. let ne : (i ≡ e.0 → ⊥) = omega arith in sym (value_later e es i ne) ∙ none i past))
      | inr past ↦ let no_vote = none e.0 past in let here = value_here e es e.0 refl in absurd (cc)
    ]

pub no_next : (from : ℕ) (es : List (ℕ × Cast)) → ((i : ℕ) → from ≤ i → value_at i es ≡ None) → ranges_of (entries_from from es) ≡ []
unfolding ranges_of
no_next from es none = ap (λ (x : List (ℕ × Cast)). ranges_of x) (none_from from es none)

-- the first range, where it ends as a run for Skip does
pub first_skips : (es : List (ℕ × Cast)) (from lo begin end hi : ℕ) (cast : Cast) (value : Value) → IsIncreasingFrom 0 es → IsNextHeld es from lo → value_at lo es ≡ Some cast → IsRunRound es lo begin end → cast.value ≡ Skip → hi ≡ end → value ≡ cast.value
    → (from < hi) × (ranges_of (entries_from from es) ≡ voted lo hi (record { ballot = cast.ballot; value = value }) ∷ ranges_of (entries_from hi es))
first_skips es from lo begin end hi cast value ordered next held run skip is same =
    rw (is, same) (next_skips es from lo begin end cast ordered next held run skip)

-- the first range, where it is a batch
pub first_batch : (es : List (ℕ × Cast)) (from lo hi : ℕ) (cast : Cast) (value : Value) (batch : List ℕ) → IsIncreasingFrom 0 es → IsNextHeld es from lo → value_at lo es ≡ Some cast → cast.value ≡ Batch batch → hi ≡ lo + 1 → value ≡ cast.value
    → (from < hi) × (ranges_of (entries_from from es) ≡ voted lo hi (record { ballot = cast.ballot; value = value }) ∷ ranges_of (entries_from hi es))
first_batch es from lo hi cast value batch ordered next held of is same =
    rw (is, same) (next_batch es from lo cast ordered next held (ap is_skip of))
