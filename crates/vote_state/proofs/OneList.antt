-- The maximal ranges of votes are one list, and setting them one after another makes the votes again.
use Rattle.std.proofs.Common.{◌≡◌, ℕ, suc, ◌<◌, ◌≤◌, true, false, Bool, List, [], ◌∷◌, refl, sym, ◌∙◌, ap, arith, inl, inr}
use Rattle.std.specs.Prelude.{◌⊎◌, Option, Some, None}
use Rattle.std.proofs.lemmas.Bool.{cases_lt}
use Rattle.mrp_types.proofs.TestLemmas.{some_is}
use Rattle.range_map.specs.Entries.{value_at, IsIncreasingFrom, with_range}
use Rattle.range_map.proofs.RunsLemmas.{within-true, within-below, within-above}
use Rattle.range_map.proofs.EntryLemmas.{same_entries, value_at-with_range, increasing_with_range}
use Rattle.vote_state.specs.declared.cast.Cast.{Cast}
use Rattle.mrp_types.specs.declared.voted.Voted.{Voted}
use Rattle.vote_state.specs.Ranges.{cast_of, ranges_of, cast_at, AreInOrderFrom, IsApartFrom, AreApart, AreAlone, AreMaximalRanges, votes_of_ranges}
use Rattle.mrp_types.specs.Values.{is_skip}
use Rattle.vote_state.proofs.RangeLemmas.{one_to}
use Rattle.vote_state.proofs.MaximalLemmas.{are_maximal, cast_within, cast_below, cast_above}

-- ---- one list

-- nothing is held below the first range
none_under : (k : ℕ) (ranges : List Voted) (i : ℕ) → AreInOrderFrom k ranges → i < k → cast_at i ranges ≡ None
none_under k [] i order below = refl
none_under k (r ∷ rs) i order below =
    let from = order.0 in
    let pos = order.1 in
    cast_below r rs i (omega arith) ∙ none_under r.hi rs i order.2 (omega arith)

weaker_order : (j k : ℕ) (ranges : List Voted) → j ≤ k → AreInOrderFrom k ranges → AreInOrderFrom j ranges
weaker_order j k [] h order = tt
weaker_order j k (r ∷ rs) h order = let from = order.0 in (omega arith, order.1, order.2)

is_voted : (r s : Voted) → r.lo ≡ s.lo → r.hi ≡ s.hi → cast_of r ≡ cast_of s → r ≡ s
is_voted r s lo hi same =
    ap (λ (n : ℕ). let v : Voted = record { lo = n; hi = r.hi; ballot = r.ballot; value = r.value } in v) lo
    ∙ ap (λ (n : ℕ). let v : Voted = record { lo = s.lo; hi = n; ballot = r.ballot; value = r.value } in v) hi
    ∙ ap (λ (c : Cast). let v : Voted = record { lo = s.lo; hi = s.hi; ballot = c.ballot; value = c.value } in v) same

-- ranges in order and apart, each batch alone
record AreRight (k : ℕ) (ranges : List Voted) : Type 0 where
  in_order : AreInOrderFrom k ranges
  apart : AreApart ranges
  alone : AreAlone ranges

right_rest : (k : ℕ) (r : Voted) (rs : List Voted) → AreRight k (r ∷ rs) → AreRight r.hi rs
right_rest k r rs right = record { in_order = right.in_order.2; apart = right.apart.1; alone = right.alone.1 }

-- no later range begins below
begins_before : (k j : ℕ) (r s : Voted) (rs ss : List Voted) → AreRight k (r ∷ rs) → AreRight j (s ∷ ss) → ((i : ℕ) → cast_at i (r ∷ rs) ≡ cast_at i (s ∷ ss)) → s.lo ≤ r.lo
begins_before k j r s rs ss right other same =
    elim (cases_lt r.lo s.lo) [
      | inr le ↦ le
      | inl below ↦
          let pos = right.in_order.1 in
          let opos = other.in_order.1 in
          let here = cast_within r rs r.lo (omega arith) pos in
          let there = cast_below s ss r.lo below ∙ none_under s.hi ss r.lo other.in_order.2 (omega arith) in
          let at = same r.lo in
          absurd (cc)
    ]

-- a range that ends earlier would be one with the next
held_next : (r : Voted) (rs : List Voted) (i : ℕ) → AreInOrderFrom r.hi rs → IsApartFrom r rs → i ≡ r.hi → cast_at i rs ≡ Some (cast_of r) → is_skip r.value ≡ true → ⊥
held_next r [] i order apart at held skip = absurd (cc)
held_next r (next ∷ rs) i order apart at held skip =
    let from = order.0 in
    let pos = order.1 in
    elim (cases_lt i next.lo) [
      | inl below ↦ let none = cast_below next rs i below ∙ none_under next.hi rs i order.2 (omega arith) in absurd (cc)
      | inr there ↦
          let lo : r.hi ≡ next.lo = omega arith in
          let here = cast_within next rs i (omega arith) (omega arith) in
          let of : cast_of next ≡ cast_of r = some_is (cast_of next) (cast_of r) (sym here ∙ held) in
          let one = one_to r.hi (cast_of r) next lo (sym of) skip in
          absurd (cc)
    ]

cases_bool : (b : Bool) → (b ≡ true) ⊎ (b ≡ false)
cases_bool true = inl refl
cases_bool false = inr refl

ends_before : (k j : ℕ) (r s : Voted) (rs ss : List Voted) → AreRight k (r ∷ rs) → AreRight j (s ∷ ss) → ((i : ℕ) → cast_at i (r ∷ rs) ≡ cast_at i (s ∷ ss)) → r.lo ≡ s.lo → cast_of r ≡ cast_of s → s.hi ≤ r.hi
ends_before k j r s rs ss right other same lo of =
    elim (cases_lt r.hi s.hi) [
      | inr le ↦ le
      | inl shorter ↦
          let pos = right.in_order.1 in
          let held : cast_at r.hi rs ≡ Some (cast_of r) = sym (cast_above r rs r.hi (omega arith)) ∙ same r.hi ∙ cast_within s ss r.hi (omega arith) shorter ∙ ap (λ (c : Cast). Some c) (sym of) in
          elim (cases_bool (is_skip r.value)) [
            | inl skip ↦ absurd (held_next r rs r.hi right.in_order.2 right.apart.0 refl held skip)
            | inr batch ↦
                let one : s.hi ≡ suc s.lo = other.alone.0 (ap (λ (c : Cast). is_skip c.value) (sym of) ∙ batch) in
                omega arith
          ]
    ]

one_list : (k j : ℕ) (rs ss : List Voted) → AreRight k rs → AreRight j ss → ((i : ℕ) → cast_at i rs ≡ cast_at i ss) → rs ≡ ss
one_list k j [] [] right other same = refl
one_list k j [] (s ∷ ss) right other same = let at = same s.lo in let here = cast_within s ss s.lo (omega arith) other.in_order.1 in absurd (cc)
one_list k j (r ∷ rs) [] right other same = let at = same r.lo in let here = cast_within r rs r.lo (omega arith) right.in_order.1 in absurd (cc)
one_list k j (r ∷ rs) (s ∷ ss) right other same =
    let below = begins_before k j r s rs ss right other same in
    let above = begins_before j k s r ss rs other right (λ i. sym (same i)) in
    let lo : r.lo ≡ s.lo = omega arith in
    let rpos = right.in_order.1 in
    let spos = other.in_order.1 in
    let of : cast_of r ≡ cast_of s = some_is (cast_of r) (cast_of s) (sym (cast_within r rs r.lo (omega arith) rpos) ∙ same r.lo ∙ cast_within s ss r.lo (omega arith) (omega arith)) in
    let shorter = ends_before k j r s rs ss right other same lo of in
    let longer = ends_before j k s r ss rs other right (λ i. sym (same i)) (sym lo) (sym of) in
    let hi : r.hi ≡ s.hi = omega arith in
    let head : r ≡ s = is_voted r s lo hi of in
    let tail : rs ≡ ss = one_list r.hi s.hi rs ss (right_rest k r rs right) (right_rest j s ss other) (λ i. elim (cases_lt i r.hi) [
      | inl under ↦ none_under r.hi rs i right.in_order.2 under ∙ sym (none_under s.hi ss i other.in_order.2 (omega arith))
      | inr past ↦ sym (cast_above r rs i past) ∙ same i ∙ cast_above s ss i (omega arith)
    ]) in
    cc

pub only_ranges : (votes : List (ℕ × Cast)) (ranges : List Voted) → IsIncreasingFrom 0 votes → AreMaximalRanges votes ranges → ranges ≡ ranges_of votes
only_ranges votes ranges ordered are =
    let own = are_maximal votes ordered in
    one_list 0 0 ranges (ranges_of votes) (record { in_order = are.in_order; apart = are.apart; alone = are.alone }) (record { in_order = own.in_order; apart = own.apart; alone = own.alone }) (λ i. are.same i ∙ sym (own.same i))

-- ---- the votes again

or_else : Option Cast → Option Cast → Option Cast
or_else None y = y
or_else (Some x) y = Some x

-- ranges set one after another
set_ranges : (k : ℕ) (ranges : List Voted) (votes : List (ℕ × Cast)) (i : ℕ) → AreInOrderFrom k ranges → value_at i (votes_of_ranges ranges votes) ≡ or_else (cast_at i ranges) (value_at i votes)
unfolding or_else
set_ranges k [] votes i order = refl
set_ranges k (r ∷ rs) votes i order =
    let pos = order.1 in
    let more = set_ranges r.hi rs (with_range r.lo r.hi (cast_of r) votes) i order.2 in
    let one = value_at-with_range r.lo r.hi (cast_of r) votes i pos in
    elim (cases_lt i r.lo) [
      | inl below ↦
          more ∙ ap (λ (o : Option Cast). or_else (cast_at i rs) o) (one ∙ rw (within-below r.lo r.hi i below) refl) ∙ ap (λ (o : Option Cast). or_else o (value_at i votes)) (sym (cast_below r rs i below))
      | inr from ↦ elim (cases_lt i r.hi) [
        | inr above ↦
            more ∙ ap (λ (o : Option Cast). or_else (cast_at i rs) o) (one ∙ rw (within-above r.lo r.hi i above) refl) ∙ ap (λ (o : Option Cast). or_else o (value_at i votes)) (sym (cast_above r rs i above))
        | inl inside ↦
            more ∙ ap (λ (o : Option Cast). or_else o (value_at i (with_range r.lo r.hi (cast_of r) votes))) (none_under r.hi rs i order.2 inside) ∙ one ∙ rw (within-true r.lo r.hi i from inside) refl
            ∙ ap (λ (o : Option Cast). or_else o (value_at i votes)) (sym (cast_within r rs i from inside))
      ]
    ]

set_in_order : (k : ℕ) (ranges : List Voted) (votes : List (ℕ × Cast)) → AreInOrderFrom k ranges → IsIncreasingFrom 0 votes → IsIncreasingFrom 0 (votes_of_ranges ranges votes)
set_in_order k [] votes order ordered = ordered
set_in_order k (r ∷ rs) votes order ordered = set_in_order r.hi rs (with_range r.lo r.hi (cast_of r) votes) order.2 (increasing_with_range r.lo r.hi (cast_of r) votes order.1 ordered)

no_more : (o : Option Cast) → or_else o None ≡ o
unfolding or_else
no_more None = refl
no_more (Some x) = refl

pub votes_again : (votes : List (ℕ × Cast)) → IsIncreasingFrom 0 votes → votes_of_ranges (ranges_of votes) [] ≡ votes
votes_again votes ordered =
    let are = are_maximal votes ordered in
    same_entries 0 (votes_of_ranges (ranges_of votes) []) votes (set_in_order 0 (ranges_of votes) [] are.in_order tt) ordered
    (λ i. set_ranges 0 (ranges_of votes) [] i are.in_order ∙ no_more (cast_at i (ranges_of votes)) ∙ are.same i)
