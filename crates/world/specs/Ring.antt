-- The one ring: its acceptors by their positions, and the masks of their votes.
use Rattle.std.specs.Prelude.{ℕ, ◌<◌, ◌≤◌, ◌+◌, ◌/◌, ◌%◌, ◌^◌, ◌==◌, not, bit_and, bit_or, Bool, length, Option, None, slice_index_or}
use Rattle.std.specs.List.{AllByRecursion}
use Rattle.std.specs.Option.{option_map}
use Rattle.mrp_types.specs.declared.id.NodeId.{NodeId}
use Rattle.mrp_types.specs.declared.id.Party.{Party}
use Rattle.mrp_types.specs.declared.id.Party.TheVariants.{Node, Client}
use Rattle.mrp_types.specs.Seats.{seat_of}
use Rattle.mrp_config.specs.declared.tables.RingTable.{RingTable}
use Rattle.mrp_config.specs.Walk.{numbers_of_nodes}
use Rattle.mrp_config.specs.Valid.{AreDifferent}
use Rattle.world.specs.declared.seat.Seat.{Seat}

-- 1 to 7 different acceptors below 32, and an id below 16
pub record IsRing (ring : RingTable) : Type 0 where
  pub id : ring.id.0 < 16
  pub some : 1 ≤ length ring.acceptors
  pub few : length ring.acceptors ≤ 7
  pub low : AllByRecursion (λ (node : NodeId). node.0 < 32) ring.acceptors
  pub different : AreDifferent (numbers_of_nodes ring.acceptors)

abbrev pub acceptor_at : RingTable → ℕ → NodeId
acceptor_at ring position = slice_index_or ring.acceptors position (record { 0 = 0 })

-- the acceptor at position 0
abbrev pub coordinator : RingTable → NodeId
coordinator ring = acceptor_at ring 0

-- the next acceptor round the ring
abbrev pub successor : RingTable → Seat → NodeId
successor ring seat = acceptor_at ring ((seat.position + 1) % length ring.acceptors)

-- where a party sits, if it is an acceptor
abbrev pub seat_at : RingTable → Party → Option Seat
seat_at ring (Node node) = option_map (λ position. record { node = node; position = position }) (seat_of node ring.acceptors)
seat_at ring (Client client) = None

-- how many votes are a majority
abbrev pub majority : RingTable → ℕ
majority ring = length ring.acceptors / 2 + 1

-- whether the mask has the bit of a position, and the mask with it
abbrev pub has_bit : ℕ → Seat → Bool
has_bit mask seat = not (bit_and mask (2 ^ seat.position) == 0)

abbrev pub with_bit : ℕ → Seat → ℕ
with_bit mask seat = bit_or mask (2 ^ seat.position)

-- a seat of this ring
pub record IsSeat (seat : Seat) (ring : RingTable) : Type 0 where
  pub below : seat.position < length ring.acceptors
  pub few : seat.position < 7
  pub low : seat.node.0 < 32
