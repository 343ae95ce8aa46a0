-- The tuple of a place has below it the places that come before the place.
use Rattle.std.proofs.Common.{arith, ◌≡◌, ◌<◌, ◌≤◌, ◌↔◌, inl, inr, ℕ, ◌+◌, ◌*◌, ◌/◌, ◌==◌, Bool, true, false, if◌then◌else◌, IsTrue, nat_lt, List, [], ◌∷◌, refl, sym, ap, true≢false, subst}
use Rattle.std.proofs.Math.Nat.{div-lt_iff_lt-mul}
use Rattle.std.proofs.lemmas.Bool.{cases_order}
use Rattle.mrp_types.specs.declared.id.RingId.{RingId}
use Rattle.mrp_types.specs.declared.place.Place.{Place}
use Rattle.mrp_types.specs.Places.{lt_then, place_lt}
use Rattle.mrp_types.proofs.PlaceOrder.{in_one_order}
use Rattle.mrp_config.specs.Config.{has_ring}
use Rattle.plain_model.specs.Tuples.{count_before, tuple_at, is_valid_tuple, IsBelow, IsNotBelow}
pub use Rattle.mrp_types.proofs.TupleMoves.{by_number}
use Rattle.plain_model.proofs.TupleOrder.{not_before, before_not, front_is_valid, same_number, other_number}

-- of two numbers that differ the rest decides nothing
apart : (r g : ℕ) (rest : Bool) → (r ≡ g → ⊥) → lt_then r g rest ≡ nat_lt r g
apart r g rest differ = elim (cases_order r g) [
  | inl same ↦ absurd (differ same)
  | inr (inl below) ↦ grind arith
  | inr (inr above) ↦ grind arith
]

-- before, or level and then so, is below one more where it is so
counts : (a b : ℕ) (t : Bool) → (a < b + (if t then 1 else 0)) ↔ IsTrue (lt_then a b t)
counts a b true = (λ less. up a b less, λ before. down a b before)
  where
    up : (a b : ℕ) → a < b + 1 → IsTrue (lt_then a b true)
    up a b less = grind arith

    down : (a b : ℕ) → IsTrue (lt_then a b true) → a < b + 1
    down a b before = grind arith
counts a b false = (λ less. up a b less, λ before. down a b before)
  where
    up : (a b : ℕ) → a < b + 0 → IsTrue (lt_then a b false)
    up a b less = grind arith

    down : (a b : ℕ) → IsTrue (lt_then a b false) → a < b + 0
    down a b before = grind arith

-- of one ring: below the place's instance
same_ring : (m : ℕ → ℕ) (p place : Place) → p.ring.0 ≡ place.ring.0 → (p.inst < place.inst) ↔ IsTrue (place_lt m p place)
same_ring m p place e = (up, down)
  where
    up : p.inst < place.inst → IsTrue (place_lt m p place)
    up less = elim ((in_one_order m).total p place) [
      | inl before ↦ before
      | inr (inl same) ↦ absurd (not_level p.inst place.inst less (ap (λ (q : Place). q.inst) same))
      | inr (inr behind) ↦ absurd (not_before m place p (sym e) (omega (arith, less)) behind)
    ]
      where
        not_level : (i j : ℕ) → i < j → i ≡ j → ⊥
        not_level i j below level = omega (arith, below, level)

    down : IsTrue (place_lt m p place) → p.inst < place.inst
    down before = elim (cases_order p.inst place.inst) [
      | inl level ↦ absurd (not_before m p place e (omega (arith, level)) before)
      | inr (inl less) ↦ less
      | inr (inr more) ↦ absurd (not_before m p place e (omega (arith, more)) before)
    ]

other_ring : (m : ℕ → ℕ) (p place : Place) → 0 < m p.ring.0 → (p.ring.0 ≡ place.ring.0 → ⊥) →
    (p.inst < (place.inst / m place.ring.0 + (if nat_lt p.ring.0 place.ring.0 then 1 else 0)) * m p.ring.0) ↔ IsTrue (place_lt m p place)
other_ring m p place some differ = (
  λ less. subst (λ (t : Bool). IsTrue (lt_then (p.inst / m p.ring.0) (place.inst / m place.ring.0) t)) (sym level)
      ((counts (p.inst / m p.ring.0) (place.inst / m place.ring.0) (nat_lt p.ring.0 place.ring.0)).0 ((div-lt_iff_lt-mul some).1 less)),
  λ before. (div-lt_iff_lt-mul some).0 ((counts (p.inst / m p.ring.0) (place.inst / m place.ring.0) (nat_lt p.ring.0 place.ring.0)).1
      (subst (λ (t : Bool). IsTrue (lt_then (p.inst / m p.ring.0) (place.inst / m place.ring.0) t)) level before)),
)
  where
    level : lt_then p.ring.0 place.ring.0 (nat_lt p.inst place.inst) ≡ nat_lt p.ring.0 place.ring.0
    level = apart p.ring.0 place.ring.0 (nat_lt p.inst place.inst) differ

pub count-before : (m : ℕ → ℕ) (p place : Place) → 0 < m p.ring.0 → (p.inst < count_before m p.ring place) ↔ IsTrue (place_lt m p place)
count-before m p place some = by (p.ring.0 == place.ring.0) refl
  where
    by : (t : Bool) → (p.ring.0 == place.ring.0) ≡ t →
        (p.inst < (if t then place.inst else (place.inst / m place.ring.0 + (if nat_lt p.ring.0 place.ring.0 then 1 else 0)) * m p.ring.0)) ↔ IsTrue (place_lt m p place)
    by true e = same_ring m p place (same_number p.ring.0 place.ring.0 e)
    by false e = other_ring m p place some (other_number p.ring.0 place.ring.0 e)

-- what is below the tuple of a place comes before it
pub below_is_before : (m : ℕ → ℕ) (rings : List RingId) (place p : Place) → ((r : ℕ) → 0 < m r) → IsBelow p (tuple_at m rings place) → IsTrue (place_lt m p place)
below_is_before m [] place p some below = absurd below
below_is_before m (ring ∷ rings) place p some (inl here) =
    (count-before m p place (some p.ring.0)).0 (subst (λ (r : RingId). p.inst < count_before m r place) (sym (by_number p.ring ring here.0)) here.1)
below_is_before m (ring ∷ rings) place p some (inr there) = below_is_before m rings place p some there

-- what isn't below the tuple of a place doesn't come before it
pub not_below_is_not_before : (m : ℕ → ℕ) (rings : List RingId) (place p : Place) → ((r : ℕ) → 0 < m r) → IsNotBelow p (tuple_at m rings place) → IsTrue (place_lt m p place) → ⊥
not_below_is_not_before m [] place p some not before = not
not_below_is_not_before m (ring ∷ rings) place p some (inl here) before =
    too_many p.inst (count_before m p.ring place) ((count-before m p place (some p.ring.0)).1 before)
    (subst (λ (r : RingId). count_before m r place ≤ p.inst) (sym (by_number p.ring ring here.0)) here.1)
  where
    too_many : (i n : ℕ) → i < n → n ≤ i → ⊥
    too_many i n less more = omega (arith, less, more)
not_below_is_not_before m (ring ∷ rings) place p some (inr there) before = not_below_is_not_before m rings place p some there before

-- each place of these rings that comes before is below
pub before_is_below : (m : ℕ → ℕ) (rings : List RingId) (place p : Place) → ((r : ℕ) → 0 < m r) → has_ring rings p.ring.0 ≡ true → IsTrue (place_lt m p place) → IsBelow p (tuple_at m rings place)
before_is_below m [] place p some has before = absurd (true≢false (sym has))
before_is_below m (ring ∷ rings) place p some has before = by (ring.0 == p.ring.0) refl has (λ h. before_is_below m rings place p some h before)
  where
    by : (t : Bool) → (ring.0 == p.ring.0) ≡ t → (if t then true else has_ring rings p.ring.0) ≡ true → (has_ring rings p.ring.0 ≡ true → IsBelow p (tuple_at m rings place)) →
        IsBelow p (tuple_at m (ring ∷ rings) place)
    by true e h later = inl (
      sym (same_number ring.0 p.ring.0 e),
      subst (λ (r : RingId). p.inst < count_before m r place) (sym (by_number ring p.ring (same_number ring.0 p.ring.0 e))) ((count-before m p place (some p.ring.0)).1 before),
    )
    by false e h later = inr (later h)

pub tuple_at_valid : (m : ℕ → ℕ) (rings : List RingId) (place : Place) → ((r : ℕ) → 0 < m r) → is_valid_tuple m (tuple_at m rings place) ≡ true
tuple_at_valid m rings place some = front_is_valid m (tuple_at m rings place)
    (λ p q below not. before_not m p place q (below_is_before m rings place p some below) (not_below_is_not_before m rings place q some not))
