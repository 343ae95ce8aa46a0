-- Tuples and the one order of the places of their rings. A tuple has for each of these rings, in increasing order, the instance that
-- comes next. The size of a ring's round is a function of its number.
use Rattle.std.specs.Prelude.{ℕ, zero, suc, ◌≡◌, ◌<◌, ◌≤◌, ◌⊎◌, IsTrue, ◌+◌, ◌==◌, nat_le, nat_lt, Bool, true, false, not, ◌&&◌, if◌then◌else◌, List, [], ◌∷◌, map, sum, Option, Some, None}
use Rattle.mrp_types.specs.declared.id.RingId.{RingId}
use Rattle.mrp_types.specs.declared.place.Place.{Place}
use Rattle.mrp_types.specs.Places.{place_lt}
use Rattle.mrp_types.specs.declared.tuple.Order.{Order}
use Rattle.mrp_types.specs.declared.tuple.Order.TheVariants.{Before, Same, After}

-- the tuple of nothing
abbrev pub first_tuple : List RingId → List (RingId × ℕ)
first_tuple rings = map (λ (ring : RingId). (ring, 0)) rings

abbrev pub place_of : RingId × ℕ → Place
place_of x = record { ring = x.0; inst = x.1 }

-- the earlier of two places, the first where they are one
abbrev pub earlier : (ℕ → ℕ) → RingId × ℕ → RingId × ℕ → RingId × ℕ
earlier m a b = if place_lt m (place_of b) (place_of a) then b else a

-- The first place of its rings that isn't below the tuple, in the one order. A ring's own places that aren't below it begin at
-- its entry, so it is the earliest of these.
abbrev pub next_place : (ℕ → ℕ) → List (RingId × ℕ) → RingId × ℕ
next_place m [] = ((record { 0 = 0 }), 0)
next_place m (x ∷ []) = x
next_place m (x ∷ y ∷ pairs) = earlier m x (next_place m (y ∷ pairs))

-- the entry of the place's ring comes to stand behind the place
abbrev pub moved_one : RingId × ℕ → RingId × ℕ → RingId × ℕ
moved_one place x = if x.0.0 == place.0.0 then (x.0, place.1 + 1) else x

abbrev pub moved_past : RingId × ℕ → List (RingId × ℕ) → List (RingId × ℕ)
moved_past place [] = []
moved_past place (x ∷ pairs) = moved_one place x ∷ moved_past place pairs

-- the tuple moved past its next place
abbrev pub past : (ℕ → ℕ) → List (RingId × ℕ) → List (RingId × ℕ)
past m tuple = moved_past (next_place m tuple) tuple

-- the tuple moved past its next n places
abbrev pub past_many : (ℕ → ℕ) → ℕ → List (RingId × ℕ) → List (RingId × ℕ)
past_many m zero tuple = tuple
past_many m (suc n) tuple = past_many m n (past m tuple)

-- ---- the order of tuples

-- the first tuple is at or after the second one, of the same rings: it is so in every entry
abbrev pub is_at_or_after : List (RingId × ℕ) → List (RingId × ℕ) → Bool
is_at_or_after (x ∷ xs) (y ∷ ys) = nat_le y.1 x.1 && is_at_or_after xs ys
is_at_or_after xs ys = true

-- the first tuple is before the second: the second is at or after it, and it isn't the same
abbrev pub tuple_before : List (RingId × ℕ) → List (RingId × ℕ) → Bool
tuple_before a b = is_at_or_after b a && not (is_at_or_after a b)

-- ---- which tuples are valid

-- whether the last place of a ring below a tuple, where there is one, comes before a place
abbrev pub is_last_before : (ℕ → ℕ) → Place → RingId → ℕ → Bool
is_last_before m next ring zero = true
is_last_before m next ring (suc last) = place_lt m (record { ring = ring; inst = last }) next

abbrev pub are_lasts_before : (ℕ → ℕ) → Place → List (RingId × ℕ) → Bool
are_lasts_before m next [] = true
are_lasts_before m next (x ∷ pairs) = is_last_before m next x.0 x.1 && are_lasts_before m next pairs

-- The places below the tuple are the first n places of its rings, for some n: each of them comes before each that isn't below.
abbrev pub is_valid_tuple : (ℕ → ℕ) → List (RingId × ℕ) → Bool
is_valid_tuple m tuple = are_lasts_before m (place_of (next_place m tuple)) tuple

-- whether the tuple has an entry for each of these rings and for no other
abbrev pub has_rings : List RingId → List (RingId × ℕ) → Bool
has_rings [] [] = true
has_rings (ring ∷ rings) (x ∷ pairs) = (ring.0 == x.0.0) && has_rings rings pairs
has_rings rings pairs = false

-- a valid tuple of a partition that subscribes to these rings
abbrev pub is_tuple_of : (ℕ → ℕ) → List RingId → List (RingId × ℕ) → Bool
is_tuple_of m rings tuple = has_rings rings tuple && is_valid_tuple m tuple

-- ---- the same in plain words

-- one of these pairs
abbrev pub IsOneOf : RingId × ℕ → List (RingId × ℕ) → Type 0
IsOneOf pair [] = ⊥
IsOneOf pair (x ∷ pairs) = (pair ≡ x) ⊎ IsOneOf pair pairs

-- a place of the tuple's rings that is below it
abbrev pub IsBelow : Place → List (RingId × ℕ) → Type 0
IsBelow place [] = ⊥
IsBelow place (x ∷ pairs) = ((place.ring.0 ≡ x.0.0) × (place.inst < x.1)) ⊎ IsBelow place pairs

-- a place of the tuple's rings that isn't below it
abbrev pub IsNotBelow : Place → List (RingId × ℕ) → Type 0
IsNotBelow place [] = ⊥
IsNotBelow place (x ∷ pairs) = ((place.ring.0 ≡ x.0.0) × (x.1 ≤ place.inst)) ⊎ IsNotBelow place pairs

-- each place below the tuple comes before each that isn't below
abbrev pub IsFront : (ℕ → ℕ) → List (RingId × ℕ) → Type 0
IsFront m tuple = (below other : Place) → IsBelow below tuple → IsNotBelow other tuple → IsTrue (place_lt m below other)

-- ---- what a tuple says

-- the entry of a ring
abbrev pub entry_at : RingId → List (RingId × ℕ) → Option ℕ
entry_at ring [] = None
entry_at ring (x ∷ pairs) = if x.0.0 == ring.0 then Some x.1 else entry_at ring pairs

-- ---- how many moves a tuple is from the first one

-- how many places are below a tuple
abbrev pub count_below : List (RingId × ℕ) → ℕ
count_below tuple = sum (map (λ (x : RingId × ℕ). x.1) tuple)

abbrev pub rings_of : List (RingId × ℕ) → List RingId
rings_of tuple = map (λ (x : RingId × ℕ). x.0) tuple

-- it is what some number of moves leaves of the first tuple of its rings
abbrev pub IsReached : (ℕ → ℕ) → List (RingId × ℕ) → Type 0
IsReached m tuple = (n : ℕ) × (past_many m n (first_tuple (rings_of tuple)) ≡ tuple)

-- ---- comparing

-- by the first two entries that differ
abbrev pub order_of : List (RingId × ℕ) → List (RingId × ℕ) → Order
order_of (x ∷ xs) (y ∷ ys) = if nat_lt x.1 y.1 then Before else (if nat_lt y.1 x.1 then After else order_of xs ys)
order_of xs ys = Same

-- what an order says of two tuples
abbrev pub IsOrderOf : List (RingId × ℕ) → List (RingId × ℕ) → Order → Type 0
IsOrderOf a b Before = tuple_before a b ≡ true
IsOrderOf a b Same = a ≡ b
IsOrderOf a b After = tuple_before b a ≡ true
