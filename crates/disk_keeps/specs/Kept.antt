-- What every image of a node's disk keeps of all that was recorded, read and told before.
use Rattle.std.specs.Prelude.{◌≡◌, ℕ, ◌≤◌, List, ◌++◌, Some}
use Rattle.mrp_types.specs.declared.id.NodeId.{NodeId}
use Rattle.mrp_types.specs.declared.value.Value.{Value}
use Rattle.mrp_config.specs.Config.{Config, partition_of}
use Rattle.mrp_config.specs.declared.tables.PartitionTable.{PartitionTable}
use Rattle.mrp_config.specs.declared.tables.RingTable.{RingTable}
use Rattle.disk_model.specs.declared.areas.Areas.{Areas}
use Rattle.disk_model.specs.Calls.{Told, IsImage}
use Rattle.quorums.specs.Groups.{Has}
use Rattle.vote_state.specs.declared.change.Change.TheVariants as change
use Rattle.vote_state.specs.State.{State, ring_at}
use Rattle.protocol.specs.Node.{Work}
use Rattle.beside_rings.specs.Beside.{changes_in}
use Rattle.bare_world.specs.Worlds as bare
use Rattle.bare_world.specs.Worlds.{Possible}
use Rattle.world_model.specs.Worlds.{Host, Up, Down, World, node_at}
use Rattle.disk_states.specs.States.{StandsFor}
use Rattle.ring_runs.specs.Histories.{History, at_first, history}
use Rattle.ring_runs.specs.Rules.{KeepsVote}
use Rattle.ring_runs.specs.Votes.{HasCast}
use Rattle.line_runs.specs.Laws.{KeepsTold}
use Rattle.line_runs.specs.Invariant.{latest_first}
use Rattle.disk_runs.specs.Runs.{WorldTies, world_after}

-- the areas that a node's disk began with, and the calls since
abbrev pub told_of : Host → Told
told_of (Up view disk) = disk.told
told_of (Down told plan) = told

-- A state keeps what its node had done in a ring by then: its promise and its trim are at least those that a done work had recorded
-- and those that an opening had read; and each vote that was cast is held, outdone by a vote as high, or below the trim.
pub record KeepsRing (table : RingTable) (early : History) (id : NodeId) (state : State) : Type 0 where
  pub promised : (work : Work) (ballot : ℕ) → Has early.done (id, work) → Has (changes_in work) (change.Promise table.id ballot) → ballot ≤ (ring_at state table.id).promise
  pub trimmed : (work : Work) (inst : ℕ) → Has early.done (id, work) → Has (changes_in work) (change.Trim table.id inst) → inst ≤ (ring_at state table.id).trim
  pub read : (before : State) → Has early.world.read (id, before)
      → ((ring_at before table.id).promise ≤ (ring_at state table.id).promise) × ((ring_at before table.id).trim ≤ (ring_at state table.id).trim)
  pub voted : (ballot i : ℕ) (value : Value) → HasCast table early id ballot i value → KeepsVote table ballot i value state

-- An image stands for one state, which keeps what was done in each ring by the end of the first happenings, and whose newest
-- checkpoint reaches each that the node has told by the end of all of them.
pub record KeepsAll (config : Config) (first more : List bare.Happening) (id : NodeId) (image : Areas) : Type 0 where
  pub state : Possible
  pub stands : StandsFor id state image
  pub rings : (table : RingTable) → Has config.rings table → KeepsRing table (history config first at_first) id state.state
  pub saved : (p : PartitionTable) → partition_of config.partitions id ≡ Some p → KeepsTold config (latest_first (world_after config (first ++ more)).lines) id.0 p state

-- Two worlds of a run on disks, an earlier and a later one: they are tied to two worlds of a run without bytes, and each image that a
-- crash may leave of a node's disk in the later one keeps all that was done by the earlier one.
pub record LosesNothing (config : Config) (early late : World) : Type 0 where
  pub first : List bare.Happening
  pub more : List bare.Happening
  pub before : WorldTies config early (world_after config first)
  pub after : WorldTies config late (world_after config (first ++ more))
  pub kept : (id : NodeId) (host : Host) → node_at late id ≡ Some host → (image : Areas) → IsImage (told_of host) image → KeepsAll config first more id image
