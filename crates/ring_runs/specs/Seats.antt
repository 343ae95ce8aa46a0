-- The nodes of a deployment in the machine of one of its rings: an acceptor by its position, and what the deployment says of
-- the ring.
use Rattle.std.specs.Prelude.{◌≡◌, ℕ, ◌+◌, ◌<◌, length, slice_index_or, Option, Some, None}
use Rattle.std.specs.List.{AllByRecursion}
use Rattle.mrp_types.specs.declared.id.NodeId.{NodeId}
use Rattle.mrp_types.specs.Seats.{seat_of}
use Rattle.mrp_config.specs.Config.{Config}
use Rattle.mrp_config.specs.declared.tables.RingTable.{RingTable}

abbrev pub acceptors : RingTable → ℕ
acceptors table = length table.acceptors

abbrev pub nobody : NodeId
nobody = record { 0 = 0 }

-- the acceptor at a position
abbrev pub acceptor_at : RingTable → ℕ → NodeId
acceptor_at table k = slice_index_or table.acceptors k nobody

-- the position of an acceptor; a node that is none gets a number past all positions, where the machine's face stays blank
abbrev pub position_or : ℕ → NodeId → Option ℕ → ℕ
position_or n id None = n + id.0
position_or n id (Some position) = position

abbrev pub seat : RingTable → NodeId → ℕ
seat table id = position_or (length table.acceptors) id (seat_of id table.acceptors)

-- What a deployment promises of the ring: its table is the only one with its id, one of 16, and it has acceptors, which are different.
pub record IsDeployed (config : Config) (table : RingTable) : Type 0 where
  pub only : AllByRecursion (λ (t : RingTable). t.id.0 ≡ table.id.0 → t ≡ table) config.rings
  pub number : table.id.0 < 16
  pub some : 0 < acceptors table
  pub distinct : (i k : ℕ) → i < acceptors table → k < acceptors table → (acceptor_at table i).0 ≡ (acceptor_at table k).0 → i ≡ k
