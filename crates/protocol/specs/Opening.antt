-- The opening of a node: what it knows when its journal and its checkpoint were read.
use Rattle.std.specs.Prelude.{List, [], ◌∷◌, Option, Some, None, if◌then◌else◌}
use Rattle.mrp_types.specs.declared.id.NodeId.{NodeId}
use Rattle.mrp_config.specs.Config.{Config, partition_of}
use Rattle.mrp_config.specs.declared.tables.RingTable.{RingTable}
use Rattle.mrp_config.specs.declared.tables.PartitionTable.{PartitionTable}
use Rattle.vote_state.specs.State.{State, ring_at}
use Rattle.vote_journal.specs.Journal.{Journal}
use Rattle.ring_link.specs.Silence.{link_after}
use Rattle.checkpoint.specs.Checkpoints.{Checkpoints}
use Rattle.protocol.specs.Parts.{Ring}
use Rattle.protocol.specs.Rings.{ring_of, is_member}
use Rattle.protocol.specs.Learner.{new_part}
use Rattle.protocol.specs.Node.{View, RingPart, Recovering, Stepped, begun_with, finished, StepSoFar}
use Rattle.protocol.specs.Recovery.{begins}

-- a ring of which the node is a member, with what its journal keeps of it
abbrev pub part_of_ring : State → Ring → RingPart
part_of_ring state ring = record { ring = ring; part = new_part ring (ring_at state ring.id) }

abbrev pub parts_of : Config → NodeId → State → List RingTable → List RingPart
parts_of config id state [] = []
parts_of config id state (ring ∷ rings) =
    if is_member (ring_of config id ring) then part_of_ring state (ring_of config id ring) ∷ parts_of config id state rings else parts_of config id state rings

abbrev pub view_of : Config → NodeId → Journal → Checkpoints → View
view_of config id journal checkpoints = record {
  id = id;
  journal = journal;
  checkpoints = checkpoints;
  link = link_after config.suspect [];
  beat = 0;
  parts = parts_of config id journal.state config.rings;
  service = None;
}

-- a replica begins its first attempt
abbrev pub begins_first : Config → Option PartitionTable → StepSoFar → StepSoFar
begins_first config None a = a
begins_first config (Some partition) a =
    begins config (record { partition = partition; attempts = 0; stage = Recovering (record { number = 0; ticks = 0; answers = []; choice = None }) }) a

-- A node has opened. It hasn't heard of any other, no coordinator is active, and a replica begins its first attempt.
unfoldable pub opened : Config → NodeId → Journal → Checkpoints → Stepped
opened config id journal checkpoints =
    finished (begins_first config (partition_of config.partitions id) (begun_with (view_of config id journal checkpoints)))
