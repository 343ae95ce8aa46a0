-- A place is the next one of its tuple, and a valid tuple is that of its next place.
use Rattle.std.proofs.Common.{arith, ◌≡◌, ◌<◌, ◌≤◌, ◌⊎◌, inl, inr, ℕ, ◌+◌, ◌*◌, ◌/◌, ◌==◌, nat_lt, Bool, true, false, if◌then◌else◌, IsTrue, nat_le, List, [], ◌∷◌, refl, sym, ap, true≢false}
use Rattle.std.proofs.lemmas.Bool.{cases_lt}
use Rattle.mrp_types.specs.declared.id.RingId.{RingId}
use Rattle.mrp_types.specs.declared.place.Place.{Place}
use Rattle.mrp_types.proofs.PlaceOrder.{in_one_order}
use Rattle.mrp_config.specs.Config.{has_ring}
use Rattle.plain_model.specs.Tuples.{place_of, next_place, tuple_at, count_before, is_at_or_after, is_valid_tuple, has_rings, is_tuple_of, IsBelow, IsNotBelow}
use Rattle.plain_model.proofs.TupleOrder.{split_and, both_true, same_number, next_is_one, none_before_next, not_below_by, valid_is_front}
use Rattle.plain_model.proofs.TupleChain.{Apart, or_apart, le_is, reaches_same, same_first, later_rings}
use Rattle.plain_model.proofs.TupleAt.{below_is_before, not_below_is_not_before}
use Rattle.mrp_types.proofs.TupleMoves.{itself}

-- ---- the tuple of the next place

pub at_has : (m : ℕ → ℕ) (rings : List RingId) (place : Place) → has_rings rings (tuple_at m rings place) ≡ true
at_has m [] place = refl
at_has m (ring ∷ rings) place = both_true (ring.0 == ring.0) (has_rings rings (tuple_at m rings place)) (itself ring.0) (at_has m rings place)

pub at-next : (m : ℕ → ℕ) (rings : List RingId) (tuple : List (RingId × ℕ)) → ((r : ℕ) → 0 < m r) → is_tuple_of m rings tuple ≡ true → tuple_at m rings (place_of (next_place m tuple)) ≡ tuple
at-next m [] [] some is = refl
at-next m (ring ∷ rings) [] some is = absurd (true≢false (sym is))
at-next m rings (x ∷ pairs) some is =
    reaches_same rings (tuple_at m rings next) (x ∷ pairs) (at_has m rings next) has
    (one_way (or_apart rings (tuple_at m rings next) (x ∷ pairs) (at_has m rings next) has))
    (other_way (or_apart rings (x ∷ pairs) (tuple_at m rings next) has (at_has m rings next)))
  where
    next : Place
    next = place_of (next_place m (x ∷ pairs))

    parts : IsTrue (has_rings rings (x ∷ pairs)) × IsTrue (is_valid_tuple m (x ∷ pairs))
    parts = split_and (has_rings rings (x ∷ pairs)) (is_valid_tuple m (x ∷ pairs)) is

    has : has_rings rings (x ∷ pairs) ≡ true
    has = parts.0

    not_below : IsNotBelow (place_of (next_place m (x ∷ pairs))) (x ∷ pairs)
    not_below = not_below_by (next_place m (x ∷ pairs)) (x ∷ pairs) (place_of (next_place m (x ∷ pairs))) (next_is_one m x pairs) refl (omega arith)

    one_way : (is_at_or_after (tuple_at m rings next) (x ∷ pairs) ≡ true) ⊎ Apart (tuple_at m rings next) (x ∷ pairs) → is_at_or_after (tuple_at m rings next) (x ∷ pairs) ≡ true
    one_way (inl after) = after
    one_way (inr w) = absurd (not_below_is_not_before m rings next w.0 some w.1.1 (valid_is_front m (x ∷ pairs) parts.1 w.0 next w.1.0 not_below))

    other_way : (is_at_or_after (x ∷ pairs) (tuple_at m rings next) ≡ true) ⊎ Apart (x ∷ pairs) (tuple_at m rings next) → is_at_or_after (x ∷ pairs) (tuple_at m rings next) ≡ true
    other_way (inl after) = after
    other_way (inr w) = absurd (none_before_next m (x ∷ pairs) w.0 w.1.1 (below_is_before m rings next w.0 some w.1.0))

pub next-at : (m : ℕ → ℕ) (rings : List RingId) (place : Place) → ((r : ℕ) → 0 < m r) → has_ring rings place.ring.0 ≡ true → place_of (next_place m (tuple_at m rings place)) ≡ place
next-at m [] place some has = absurd (true≢false (sym has))
next-at m (ring ∷ rings) place some has = elim ((in_one_order m).total (place_of next) place) [
  | inl before ↦ absurd (not_below_is_not_before m (ring ∷ rings) place (place_of next) some next_not before)
  | inr (inl same) ↦ same
  | inr (inr behind) ↦ absurd (none_before_next m (tuple_at m (ring ∷ rings) place) place (own_not (ring ∷ rings) has) behind)
]
  where
    next : RingId × ℕ
    next = next_place m (tuple_at m (ring ∷ rings) place)

    next_not : IsNotBelow (place_of (next_place m (tuple_at m (ring ∷ rings) place))) (tuple_at m (ring ∷ rings) place)
    next_not = not_below_by (next_place m (tuple_at m (ring ∷ rings) place)) (tuple_at m (ring ∷ rings) place) (place_of (next_place m (tuple_at m (ring ∷ rings) place)))
        (next_is_one m (ring, count_before m ring place) (tuple_at m rings place)) refl (omega arith)

    own_count : (r : RingId) → (r.0 == place.ring.0) ≡ true → count_before m r place ≡ place.inst
    own_count r e = ap (λ (t : Bool). if t then place.inst else (place.inst / m place.ring.0 + (if nat_lt r.0 place.ring.0 then 1 else 0)) * m r.0) e

    own_not : (rs : List RingId) → has_ring rs place.ring.0 ≡ true → IsNotBelow place (tuple_at m rs place)
    own_not [] h = absurd (true≢false (sym h))
    own_not (r ∷ rs) h = by (r.0 == place.ring.0) refl h (λ g. own_not rs g)
      where
        by : (t : Bool) → (r.0 == place.ring.0) ≡ t → (if t then true else has_ring rs place.ring.0) ≡ true → (has_ring rs place.ring.0 ≡ true → IsNotBelow place (tuple_at m rs place)) →
            IsNotBelow place ((r, count_before m r place) ∷ tuple_at m rs place)
        by true e g later = inl (sym (same_number r.0 place.ring.0 e), omega (arith, own_count r e))
        by false e g later = inr (later g)
