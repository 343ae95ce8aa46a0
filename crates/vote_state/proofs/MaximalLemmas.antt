-- That the ranges of votes are maximal and have exactly these votes.
use Rattle.std.proofs.Common.{◌≡◌, ℕ, suc, ◌<◌, ◌≤◌, true, false, Bool, List, [], ◌∷◌, refl, sym, ◌∙◌, ap, subst, arith, inl, inr}
use Rattle.std.specs.Prelude.{nat_le, Some, Result, Ok, Err, IfOk, if◌then◌else◌}
use Rattle.std.proofs.lemmas.Bool.{cases_lt, cases_eq}
use Rattle.range_map.specs.Entries.{value_at, IsIncreasingFrom, entries_from}
use Rattle.range_map.proofs.RunsLemmas.{within-true, within-below, within-above}
use Rattle.range_map.proofs.EntryLemmas.{increasing_entries_from, value_here, value_later}
use Rattle.vote_state.specs.declared.cast.Cast.{Cast}
use Rattle.mrp_types.specs.declared.voted.Voted.{Voted}
use Rattle.vote_state.specs.Ranges.{cast_of, voted, is_one, vote_before, ranges_of, cast_at, AreInOrderFrom, AreAlone, IsApartFrom, AreApart, AreMaximalRanges}
use Rattle.mrp_types.specs.declared.id.RingId.{RingId}
use Rattle.mrp_types.specs.declared.memory.Memory.{Memory}
use Rattle.vote_state.specs.declared.ring.RingState.{RingState}
use Rattle.vote_state.specs.State.{IsState, State, no_votes, ring_at, votes_at, votes_from}
use Rattle.vote_state.proofs.RangeLemmas.{Touches, one_from}
use Rattle.std.specs.List.{AllByRecursion}
use Rattle.vote_state.specs.Valid.{IsVoted, IsHeld}
use Rattle.vote_state.proofs.StateLemmas.{each_at, filter_all}
use Rattle.vote_state.proofs.ValidLemmas.{ranges_valid}

-- maximal ranges from an instance on
record AreRanges (k : ℕ) (votes : List (ℕ × Cast)) (ranges : List Voted) : Type 0 where
  in_order : AreInOrderFrom k ranges
  same : (i : ℕ) → cast_at i ranges ≡ value_at i votes
  apart : AreApart ranges
  alone : AreAlone ranges

pub cast_within : (range : Voted) (ranges : List Voted) (i : ℕ) → range.lo ≤ i → i < range.hi → cast_at i (range ∷ ranges) ≡ Some (cast_of range)
cast_within range ranges i a b = rw (within-true range.lo range.hi i a b) refl

pub cast_below : (range : Voted) (ranges : List Voted) (i : ℕ) → i < range.lo → cast_at i (range ∷ ranges) ≡ cast_at i ranges
cast_below range ranges i a = rw (within-below range.lo range.hi i a) refl

pub cast_above : (range : Voted) (ranges : List Voted) (i : ℕ) → range.hi ≤ i → cast_at i (range ∷ ranges) ≡ cast_at i ranges
cast_above range ranges i a = rw (within-above range.lo range.hi i a) refl

-- a vote that stands before the ranges of the later votes
module _ (k : ℕ) (e : ℕ × Cast) (es : List (ℕ × Cast)) where
  alone_before : (ranges : List Voted) → k ≤ e.0 → AreRanges (suc e.0) es ranges → IsApartFrom (voted e.0 (suc e.0) e.1) ranges → AreRanges k (e ∷ es) (voted e.0 (suc e.0) e.1 ∷ ranges)
  alone_before ranges from are apart = record {
    in_order = (from, omega arith, are.in_order);
    same = same;
    apart = (apart, are.apart);
    alone = ((λ _. refl), are.alone);
  }
    where
      one : Voted
      one = voted e.0 (suc e.0) e.1

      same : (i : ℕ) → cast_at i (voted e.0 (suc e.0) e.1 ∷ ranges) ≡ value_at i (e ∷ es)
      same i =
          elim (cases_eq i e.0) [
            | inl here ↦ cast_within (voted e.0 (suc e.0) e.1) ranges i (omega arith) (omega arith) ∙ sym (value_here e es i here)
            | inr ne ↦ elim (cases_lt i e.0) [
              | inl below ↦ cast_below (voted e.0 (suc e.0) e.1) ranges i below ∙ are.same i ∙ sym (value_later e es i ne)
              | inr above ↦ cast_above (voted e.0 (suc e.0) e.1) ranges i (omega arith) ∙ are.same i ∙ sym (value_later e es i ne)
            ]
          ]

  joined_before : (next : Voted) (ranges : List Voted) → k ≤ e.0 → AreRanges (suc e.0) es (next ∷ ranges) → Touches (suc e.0) e.1 next → AreRanges k (e ∷ es) (voted e.0 next.hi e.1 ∷ ranges)
  joined_before next ranges from are touches =
      let at = touches.at in
      let order = are.in_order in
      let pos = order.1 in
      record {
        in_order = (from, omega arith, order.2);
        same = same;
        apart = (subst (λ (cast : Cast). IsApartFrom (voted next.lo next.hi cast) ranges) (sym touches.same) (moved ranges are.apart.0), are.apart.1);
        alone = ((λ batch. let skip = touches.skip in absurd (cc)), are.alone.1);
      }
    where
      moved : (ranges : List Voted) → IsApartFrom next ranges → IsApartFrom (voted next.lo next.hi (cast_of next)) ranges
      moved [] h = tt
      moved (r ∷ rs) h = h

      same : (i : ℕ) → cast_at i (voted e.0 next.hi e.1 ∷ ranges) ≡ value_at i (e ∷ es)
      same i =
          let at = touches.at in
          let pos = are.in_order.1 in
          elim (cases_eq i e.0) [
            | inl here ↦ cast_within (voted e.0 next.hi e.1) ranges i (omega arith) (omega arith) ∙ sym (value_here e es i here)
            | inr ne ↦ elim (cases_lt i e.0) [
              | inl below ↦ cast_below (voted e.0 next.hi e.1) ranges i below ∙ sym (cast_below next ranges i (omega arith)) ∙ are.same i ∙ sym (value_later e es i ne)
              | inr past ↦ elim (cases_lt i next.hi) [
                | inl inside ↦
                    cast_within (voted e.0 next.hi e.1) ranges i past inside ∙ ap (λ (c : Cast). Some c) touches.same ∙ sym (cast_within next ranges i (omega arith) inside) ∙ are.same i ∙ sym (value_later e es i ne)
                | inr above ↦ cast_above (voted e.0 next.hi e.1) ranges i above ∙ sym (cast_above next ranges i above) ∙ are.same i ∙ sym (value_later e es i ne)
              ]
            ]
          ]

  ranges_before : (ranges : List Voted) → k ≤ e.0 → AreRanges (suc e.0) es ranges → AreRanges k (e ∷ es) (vote_before e.0 e.1 ranges)
  ranges_before [] from are = alone_before [] from are tt
  ranges_before (next ∷ ranges) from are = chosen (is_one (suc e.0) e.1 next) refl
    where
      chosen : (b : Bool) → is_one (suc e.0) e.1 next ≡ b → AreRanges k (e ∷ es) (if b then voted e.0 next.hi e.1 ∷ ranges else voted e.0 (suc e.0) e.1 ∷ next ∷ ranges)
      chosen true is = joined_before next ranges from are (one_from (suc e.0) e.1 next is)
      chosen false is = alone_before (next ∷ ranges) from are is

are_ranges : (k : ℕ) (votes : List (ℕ × Cast)) → IsIncreasingFrom k votes → AreRanges k votes (ranges_of votes)
unfolding ranges_of
are_ranges k [] ordered = record { in_order = tt; same = λ i. refl; apart = tt; alone = tt }
are_ranges k (e ∷ es) ordered = ranges_before k e es (ranges_of es) ordered.0 (are_ranges (suc e.0) es ordered.1)

pub are_maximal : (votes : List (ℕ × Cast)) → IsIncreasingFrom 0 votes → AreMaximalRanges votes (ranges_of votes)
are_maximal votes ordered = let are = are_ranges 0 votes ordered in record { in_order = are.in_order; same = are.same; apart = are.apart; alone = are.alone }

pub maximal_from : (votes : List (ℕ × Cast)) (from : ℕ) → IsIncreasingFrom 0 votes → AreMaximalRanges (entries_from from votes) (ranges_of (entries_from from votes))
maximal_from votes from ordered = are_maximal (entries_from from votes) (increasing_entries_from 0 from 0 votes ordered (inl (omega arith)))

-- what is answered of a ring
pub answered_maximal : (s : State) (ring : RingId) (state : RingState) (from : ℕ) (answer : Result (List Voted) Memory) → IsState s → state ≡ ring_at s ring → IfOk answer (λ votes. votes ≡ ranges_of (entries_from from state.votes))
    → IfOk answer (λ votes. AreMaximalRanges (entries_from from (votes_at s ring)) votes)
answered_maximal s ring state from (Err e) formed is votes = tt
answered_maximal s ring state from (Ok votes) formed is exact =
    let here : votes ≡ ranges_of (entries_from from (votes_at s ring)) = exact ∙ ap (λ (r : RingState). ranges_of (entries_from from r.votes)) is in
    subst (λ (v : List Voted). AreMaximalRanges (entries_from from (votes_at s ring)) v) (sym here) (maximal_from (votes_at s ring) from (each_at s.rings ring.0 formed.each).ordered)

pub nothing_from : (s : State) (ring : RingId) (from : ℕ) → ring_at s ring ≡ no_votes → votes_from s ring from ≡ []
unfolding ranges_of
nothing_from s ring from none = ap (λ (r : RingState). ranges_of (entries_from from r.votes)) none

pub answered_valid : (s : State) (ring : RingId) (state : RingState) (from : ℕ) (answer : Result (List Voted) Memory) → IsState s → state ≡ ring_at s ring → IfOk answer (λ votes. votes ≡ ranges_of (entries_from from state.votes))
    → IfOk answer (λ votes. AllByRecursion IsVoted votes)
answered_valid s ring state from (Err e) formed is votes = tt
answered_valid s ring state from (Ok votes) formed is exact =
    let here : votes ≡ ranges_of (entries_from from (votes_at s ring)) = exact ∙ ap (λ (r : RingState). ranges_of (entries_from from r.votes)) is in
    subst (λ (v : List Voted). AllByRecursion IsVoted v) (sym here) (ranges_valid (entries_from from (votes_at s ring)) (filter_all IsHeld (λ e. nat_le from e.0) (votes_at s ring) (each_at s.rings ring.0 formed.each).votes))
