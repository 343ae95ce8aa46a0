-- Tuples of a partition: how far its replicas have come in the one order of the places of its rings.
use Rattle.std.specs.Prelude.{ℕ, ◌+◌, ◌*◌, ◌/◌, ◌==◌, nat_lt, if◌then◌else◌, List, map}
use Rattle.mrp_types.specs.declared.id.RingId.{RingId}
use Rattle.mrp_types.specs.declared.place.Place.{Place}
use Rattle.mrp_config.specs.Config.{Config, round_of}
pub use Rattle.mrp_types.specs.Moves.{first_tuple, place_of, earlier, next_place, moved_past, past, past_many, is_at_or_after, tuple_before, is_last_before, are_lasts_before, is_valid_tuple, has_rings, is_tuple_of, IsOneOf, IsBelow, IsNotBelow, IsFront, entry_at}

-- the size of a ring's round, by the ring's number
abbrev pub round_sizes : Config → ℕ → ℕ
round_sizes config ring = round_of config (record { 0 = ring })

-- ---- what a tuple says

-- the entries alone, by ring, as a line prints them
abbrev pub instances : List (RingId × ℕ) → List ℕ
instances tuple = map (λ (x : RingId × ℕ). x.1) tuple

-- how many places of a ring come before a place: of a ring before its own those of its round too, of one after it none of them
abbrev pub count_before : (ℕ → ℕ) → RingId → Place → ℕ
count_before m ring place =
    if ring.0 == place.ring.0 then place.inst
    else (place.inst / m place.ring.0 + (if nat_lt ring.0 place.ring.0 then 1 else 0)) * m ring.0

-- the tuple below which are the places of these rings that come before a place
abbrev pub tuple_at : (ℕ → ℕ) → List RingId → Place → List (RingId × ℕ)
tuple_at m rings place = map (λ (ring : RingId). (ring, count_before m ring place)) rings
