-- Openings on areas that stand for a possible state.
use Rattle.std.specs.Prelude.{◌≡◌, ◌⊎◌, ◌<◌, ◌+◌, ◌-◌, ◌^◌, ℕ, List, Some, Ok}
use Rattle.mrp_types.specs.declared.id.NodeId.{NodeId}
use Rattle.mrp_config.specs.Config.{Config, partition_of}
use Rattle.mrp_config.specs.declared.tables.PartitionTable.{PartitionTable}
use Rattle.disk_model.specs.declared.areas.Areas.{Areas}
use Rattle.disk_model.specs.declared.call.Call.{Call}
use Rattle.disk_model.specs.Calls.{begun, and_then}
use Rattle.disk_model.specs.Running.{changes_in}
use Rattle.gate_log.specs.Journal.{records_in}
use Rattle.vote_state.specs.State.{taken}
use Rattle.vote_journal.specs.Journal.{next_epoch, opened_end}
use Rattle.checkpoint.specs.Checkpoints.{Checkpoint}
use Rattle.protocol.specs.Lines.{Cause, Full}
use Rattle.bare_world.specs.Worlds.{Possible}
use Rattle.bare_world.specs.Runs.{IsReadable}
use Rattle.world_model.specs.Opening.{Kept, opening}
use Rattle.disk_states.specs.States.{IsHeld}

-- that state in an epoch more
abbrev pub raised : Possible → Possible
raised p = record p { state = taken (next_epoch p.state) p.state }

-- the calls of an opening
abbrev pub opening_calls : Config → NodeId → Areas → List Call
opening_calls config id areas = changes_in (opening config id areas).work

-- the newest checkpoint of a replica is one of its partition
abbrev pub NewestIsReadable : Config → NodeId → Possible → Type 0
NewestIsReadable config id p = (partition : PartitionTable) (newest : Checkpoint) → partition_of config.partitions id ≡ Some partition → p.newest ≡ Some newest → IsReadable config partition newest

-- An opening has read a state in an epoch more, and its checkpoint, which is readable; the disk then holds them.
pub record HasOpened (config : Config) (id : NodeId) (areas : Areas) (p : Possible) (kept : Kept) : Type 0 where
  pub held : IsHeld kept.journal kept.checkpoints (and_then (begun areas) (opening_calls config id areas))
  pub node : kept.journal.id ≡ id
  pub limit : kept.journal.log.limit ≡ config.journal
  pub room : p.state.epoch + 1 < 2 ^ 32
  pub state : kept.journal.state ≡ (raised p).state
  pub newest : kept.checkpoints.newest ≡ p.newest
  pub readable : NewestIsReadable config id p

-- The record of the next epoch would pass the journal's limit.
pub record HasNoRoom (config : Config) (id : NodeId) (areas : Areas) (p : Possible) : Type 0 where
  pub records : List (List ℕ)
  pub found : records_in areas ≡ Ok records
  pub over : config.journal < opened_end id records p.state

-- what no journal has room for: an epoch behind the last one, or its record
pub record IsFull (config : Config) (id : NodeId) (areas : Areas) (p : Possible) (cause : Cause) : Type 0 where
  pub full : cause ≡ Full
  pub why : (p.state.epoch ≡ 2 ^ 32 - 1) ⊎ HasNoRoom config id areas p
