-- Places and tuples of the rings 0 and 1, and where a round holds two instances of the one and one of the other.
use Rattle.std.specs.Prelude.{ℕ, zero, suc, Bool, true, not, ◌&&◌, List, [], ◌∷◌, map}
use Rattle.std.specs.List.{list_all}
use Rattle.mrp_types.specs.declared.id.RingId.{RingId}
use Rattle.mrp_types.specs.declared.place.Place.{Place}
use Rattle.mrp_types.specs.Moves.{first_tuple, next_place, past, place_of}
use Rattle.mrp_types.specs.Places.{place_lt}
use Rattle.mrp_types.specs.Rounds.{size_of}
use Rattle.worked_values.specs.Ids.{ring}

abbrev pub twos : ℕ → ℕ
twos number = 2

abbrev pub two_and_one : ℕ → ℕ
two_and_one number = size_of (2 ∷ 1 ∷ []) number

-- an instance of ring 0 and one of ring 1
abbrev pub zeroth : ℕ → RingId × ℕ
zeroth inst = (ring 0, inst)

abbrev pub first : ℕ → RingId × ℕ
first inst = (ring 1, inst)

abbrev pub both_rings : ℕ → ℕ → List (RingId × ℕ)
both_rings a b = zeroth a ∷ first b ∷ []

-- a place comes before another, and not the other before it
abbrev pub comes_before : (ℕ → ℕ) → Place → Place → Bool
comes_before m a b = place_lt m a b && not (place_lt m b a)

-- each place comes before all that stand behind it
abbrev pub stand_so : (ℕ → ℕ) → List Place → Bool
stand_so m [] = true
stand_so m (a ∷ places) = list_all (comes_before m a) places && stand_so m places

abbrev pub are_in_order : (ℕ → ℕ) → List (RingId × ℕ) → Bool
are_in_order m places = stand_so m (map place_of places)

-- the next n places of a tuple, each once the tuple was moved past those before
abbrev pub next_places : (ℕ → ℕ) → ℕ → List (RingId × ℕ) → List (RingId × ℕ)
next_places m zero tuple = []
next_places m (suc n) tuple = next_place m tuple ∷ next_places m n (past m tuple)

-- the tuple of nothing
abbrev pub nothing_yet : List (RingId × ℕ)
nothing_yet = first_tuple (ring 0 ∷ ring 1 ∷ [])
