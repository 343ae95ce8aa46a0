-- The front of some ranges tells exactly what all of them tell below the first one that is left out.
use Rattle.std.proofs.Common.{◌≡◌, ◌⊎◌, inl, inr, ℕ, ◌<◌, ◌≤◌, List, [], ◌∷◌, ◌++◌, Some, None, refl, sym, ◌∙◌, subst, arith}
use Rattle.std.proofs.lemmas.Bool.{cases_lt}
use Rattle.std.proofs.lemmas.List.{append-nil}
use Rattle.mrp_types.specs.declared.id.TheConstants.{END}
use Rattle.mrp_types.specs.declared.voted.Voted.{Voted}
use Rattle.vote_state.specs.Ranges.{cast_of, cast_at, AreInOrderFrom}
use Rattle.ring_kept.specs.Pages.{front_end}
use Rattle.vote_state.proofs.MaximalLemmas.{cast_within, cast_below, cast_above}

pub cast_before : (k : ℕ) (ranges : List Voted) (i : ℕ) → AreInOrderFrom k ranges → i < k → cast_at i ranges ≡ None
cast_before k [] i order below = refl
cast_before k (range ∷ ranges) i order below =
    let from = order.0 in
    let some = order.1 in
    cast_below range ranges i (omega arith) ∙ cast_before range.hi ranges i order.2 (omega arith)

order_weaker : (j k : ℕ) (ranges : List Voted) → j ≤ k → AreInOrderFrom k ranges → AreInOrderFrom j ranges
order_weaker j k [] le order = tt
order_weaker j k (range ∷ ranges) le order = let from = order.0 in (omega arith, order.1, order.2)

-- the ranges that are left out begin at k or later
rest_order : (k : ℕ) (front rest : List Voted) → AreInOrderFrom k (front ++ rest) → AreInOrderFrom k rest
rest_order k [] rest order = order
rest_order k (range ∷ front) rest order =
    let from = order.0 in
    let some = order.1 in
    order_weaker k range.hi rest (omega arith) (rest_order range.hi front rest order.2)

pub front_order : (k : ℕ) (front rest : List Voted) → AreInOrderFrom k (front ++ rest) → AreInOrderFrom k front
front_order k [] rest order = tt
front_order k (range ∷ front) rest order = (order.0, order.1, front_order range.hi front rest order.2)

pub cast_front : (k : ℕ) (front rest : List Voted) (i : ℕ) → AreInOrderFrom k (front ++ rest) → i < front_end rest → cast_at i front ≡ cast_at i (front ++ rest)
cast_front k [] [] i order below = refl
cast_front k [] (range ∷ rest) i order below =
    let some = order.1 in
    sym (cast_below range rest i below ∙ cast_before range.hi rest i order.2 (omega arith))
cast_front k (range ∷ front) rest i order below = elim (cases_lt i range.lo) [
  | inl less ↦ cast_below range front i less ∙ cast_front range.hi front rest i order.2 below ∙ sym (cast_below range (front ++ rest) i less)
  | inr from ↦ elim (cases_lt i range.hi) [
    | inl to ↦ cast_within range front i from to ∙ sym (cast_within range (front ++ rest) i from to)
    | inr past ↦ cast_above range front i past ∙ cast_front range.hi front rest i order.2 below ∙ sym (cast_above range (front ++ rest) i past)
  ]
]

-- from the first range that is left out on the front tells nothing
pub cast_past : (k : ℕ) (front : List Voted) (next : Voted) (rest : List Voted) (i : ℕ) → AreInOrderFrom k (front ++ next ∷ rest) → next.lo ≤ i
    → (cast_at i front ≡ None) × (cast_at i (front ++ next ∷ rest) ≡ cast_at i (next ∷ rest))
cast_past k [] next rest i order from = (refl, refl)
cast_past k (range ∷ front) next rest i order from =
    let end : range.hi ≤ next.lo = (rest_order range.hi front (next ∷ rest) order.2).0 in
    let more = cast_past range.hi front next rest i order.2 from in
    (cast_above range front i (omega arith) ∙ more.0, cast_above range (front ++ next ∷ rest) i (omega arith) ∙ more.1)

-- the page ends at the end of all instances at the latest, where no vote is held from there on
pub front_ended : (front rest : List Voted) → AreInOrderFrom 0 (front ++ rest) → ((i : ℕ) → END ≤ i → cast_at i (front ++ rest) ≡ None) → front_end rest ≤ END
front_ended front [] order none = omega arith
front_ended front (next ∷ rest) order none = elim (cases_lt END next.lo) [
  | inr le ↦ le
  | inl past ↦
      let some : next.lo < next.hi = (rest_order 0 front (next ∷ rest) order).1 in
      let here : cast_at next.lo (front ++ next ∷ rest) ≡ Some (cast_of next) =
      (cast_past 0 front next rest next.lo order (omega arith)).1 ∙ cast_within next rest next.lo (omega arith) some in
      let nothing = none next.lo (omega arith) in
      absurd (cc)
]

-- what the front tells: below its end all, from there on nothing
pub front_tells : (front rest : List Voted) (i : ℕ) → AreInOrderFrom 0 (front ++ rest) → ((j : ℕ) → END ≤ j → cast_at j (front ++ rest) ≡ None)
    → ((i < front_end rest) × (cast_at i front ≡ cast_at i (front ++ rest))) ⊎ ((front_end rest ≤ i) × (cast_at i front ≡ None))
front_tells front rest i order none = elim (cases_lt i (front_end rest)) [
  | inl below ↦ inl (below, cast_front 0 front rest i order below)
  | inr past ↦ inr (past, by_rest rest order none past)
]
  where
    by_rest : (rest : List Voted) → AreInOrderFrom 0 (front ++ rest) → ((j : ℕ) → END ≤ j → cast_at j (front ++ rest) ≡ None) → front_end rest ≤ i → cast_at i front ≡ None
    by_rest [] order none past = subst (λ l. cast_at i l ≡ None) (append-nil front) (none i past)
    by_rest (next ∷ rest) order none past = (cast_past 0 front next rest i order past).0
