-- Laws of the tuple of a place, where the rounds of its rings hold something.
use Rattle.std.proofs.Common.{arith, ◌≡◌, ◌<◌, ◌≤◌, ◌⊎◌, inl, inr, ℕ, ◌+◌, ◌*◌, ◌/◌, ◌==◌, nat_lt, Bool, true, false, if◌then◌else◌, IsTrue, List, [], ◌∷◌, refl, sym, ap, subst}
use Rattle.mrp_types.specs.declared.id.RingId.{RingId}
use Rattle.mrp_types.specs.declared.place.Place.{Place}
use Rattle.mrp_types.specs.Places.{place_lt}
use Rattle.mrp_types.specs.Moves.{place_of, next_place, is_at_or_after, is_valid_tuple, has_rings, rings_of, IsOneOf, IsBelow, IsNotBelow}
use Rattle.mrp_types.proofs.PlaceOrder.{in_one_order}
use Rattle.mrp_types.proofs.TupleOrder.{before_not, front_is_valid, valid_is_front, next_is_one, none_before_next, not_below_by, other_number}
use Rattle.mrp_types.proofs.TupleMoves.{by_number}
use Rattle.mrp_types.proofs.TupleChain.{Apart, or_apart}
use Rattle.plain_model.specs.Tuples.{count_before, tuple_at}
use Rattle.plain_model.proofs.TupleAt.{count-before}
use Rattle.tuple_laws.proofs.NextPlaces.{at_has}
use Rattle.merge.specs.Ahead.{AreSized}

some_of : (n : ℕ) → 1 ≤ n → 0 < n
some_of n least = omega (arith, least)

size_there : (m : ℕ → ℕ) (a b : ℕ) → a ≡ b → 1 ≤ m b → 0 < m a
size_there m a b same least = some_of (m a) (subst (λ (r : ℕ). 1 ≤ m r) (sym same) least)

-- what is below the tuple of a place comes before it
pub below_is_before : (m : ℕ → ℕ) (pairs : List (RingId × ℕ)) (place p : Place) → AreSized m pairs → IsBelow p (tuple_at m (rings_of pairs) place) → IsTrue (place_lt m p place)
below_is_before m [] place p sized below = absurd below
below_is_before m (x ∷ pairs) place p sized (inl here) =
    (count-before m p place (size_there m p.ring.0 x.0.0 here.0 sized.0)).0 (subst (λ (r : RingId). p.inst < count_before m r place) (sym (by_number p.ring x.0 here.0)) here.1)
below_is_before m (x ∷ pairs) place p sized (inr there) = below_is_before m pairs place p sized.1 there

too_many : (i n : ℕ) → i < n → n ≤ i → ⊥
too_many i n less more = omega (arith, less, more)

-- what isn't below the tuple of a place doesn't come before it
pub not_below_is_not_before : (m : ℕ → ℕ) (pairs : List (RingId × ℕ)) (place p : Place) → AreSized m pairs → IsNotBelow p (tuple_at m (rings_of pairs) place) → IsTrue (place_lt m p place) → ⊥
not_below_is_not_before m [] place p sized not before = not
not_below_is_not_before m (x ∷ pairs) place p sized (inl here) before =
    too_many p.inst (count_before m p.ring place) ((count-before m p place (size_there m p.ring.0 x.0.0 here.0 sized.0)).1 before)
    (subst (λ (r : RingId). count_before m r place ≤ p.inst) (sym (by_number p.ring x.0 here.0)) here.1)
not_below_is_not_before m (x ∷ pairs) place p sized (inr there) before = not_below_is_not_before m pairs place p sized.1 there before

pub at_valid : (m : ℕ → ℕ) (pairs : List (RingId × ℕ)) (place : Place) → AreSized m pairs → is_valid_tuple m (tuple_at m (rings_of pairs) place) ≡ true
at_valid m pairs place sized = front_is_valid m (tuple_at m (rings_of pairs) place)
    (λ p q below not. before_not m p place q (below_is_before m pairs place p sized below) (not_below_is_not_before m pairs place q sized not))

own_count : (m : ℕ → ℕ) (place : Place) (r : RingId) → (r.0 == place.ring.0) ≡ true → count_before m r place ≡ place.inst
own_count m place r e = ap (λ (t : Bool). if t then place.inst else (place.inst / m place.ring.0 + (if nat_lt r.0 place.ring.0 then 1 else 0)) * m r.0) e

-- a place of one of the rings isn't below its tuple
own_not : (m : ℕ → ℕ) (pairs : List (RingId × ℕ)) (q : RingId × ℕ) → IsOneOf q pairs → IsNotBelow (place_of q) (tuple_at m (rings_of pairs) (place_of q))
own_not m [] q one = absurd one
own_not m (x ∷ pairs) q (inr there) = inr (own_not m pairs q there)
own_not m (x ∷ pairs) q (inl same) = by (x.0.0 == q.0.0) refl
  where
    number : q.0.0 ≡ x.0.0
    number = ap (λ (y : RingId × ℕ). y.0.0) same

    by : (t : Bool) → (x.0.0 == q.0.0) ≡ t → IsNotBelow (place_of q) ((x.0, count_before m x.0 (place_of q)) ∷ tuple_at m (rings_of pairs) (place_of q))
    by true e = inl (number, omega (arith, own_count m (place_of q) x.0 e))
    by false e = absurd (other_number x.0.0 q.0.0 e (sym number))

-- it is the next place of its tuple
pub next_of_at : (m : ℕ → ℕ) (pairs : List (RingId × ℕ)) (q : RingId × ℕ) → AreSized m pairs → IsOneOf q pairs → place_of (next_place m (tuple_at m (rings_of pairs) (place_of q))) ≡ place_of q
next_of_at m [] q sized one = absurd one
next_of_at m (x ∷ pairs) q sized one = elim ((in_one_order m).total (place_of (next_place m b)) (place_of q)) [
  | inl before ↦ absurd (not_below_is_not_before m (x ∷ pairs) (place_of q) (place_of (next_place m b)) sized next_not before)
  | inr (inl same) ↦ same
  | inr (inr behind) ↦ absurd (none_before_next m b (place_of q) (own_not m (x ∷ pairs) q one) behind)
]
  where
    b : List (RingId × ℕ)
    b = tuple_at m (rings_of (x ∷ pairs)) (place_of q)

    next_not : IsNotBelow (place_of (next_place m (tuple_at m (rings_of (x ∷ pairs)) (place_of q)))) (tuple_at m (rings_of (x ∷ pairs)) (place_of q))
    next_not = not_below_by (next_place m (tuple_at m (rings_of (x ∷ pairs)) (place_of q))) (tuple_at m (rings_of (x ∷ pairs)) (place_of q))
        (place_of (next_place m (tuple_at m (rings_of (x ∷ pairs)) (place_of q))))
        (next_is_one m (x.0, count_before m x.0 (place_of q)) (tuple_at m (rings_of pairs) (place_of q))) refl (omega arith)

-- a valid tuple below which the place isn't is reached by that of the place
pub at_after : (m : ℕ → ℕ) (pairs a : List (RingId × ℕ)) (place : Place) → AreSized m pairs → has_rings (rings_of pairs) a ≡ true → is_valid_tuple m a ≡ true → IsNotBelow place a →
    is_at_or_after (tuple_at m (rings_of pairs) place) a ≡ true
at_after m pairs a place sized has valid not = by (or_apart (rings_of pairs) (tuple_at m (rings_of pairs) place) a (at_has m (rings_of pairs) place) has)
  where
    by : (is_at_or_after (tuple_at m (rings_of pairs) place) a ≡ true) ⊎ Apart (tuple_at m (rings_of pairs) place) a → is_at_or_after (tuple_at m (rings_of pairs) place) a ≡ true
    by (inl after) = after
    by (inr w) = absurd (not_below_is_not_before m pairs place w.0 sized w.1.1 (valid_is_front m a valid w.0 place w.1.0 not))
