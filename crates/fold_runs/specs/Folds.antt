-- The lines of a run are the fold's, and so is what each image of a node's disk holds.
use Rattle.std.specs.Prelude.{◌≡◌, ℕ, List, [], ◌∷◌, ◌++◌, Option, Some}
use Rattle.mrp_types.specs.declared.id.ClientId.{ClientId}
use Rattle.mrp_types.specs.declared.id.NodeId.{NodeId}
use Rattle.mrp_config.specs.Config.{Config, partition_of}
use Rattle.mrp_config.specs.declared.tables.PartitionTable.{PartitionTable}
use Rattle.disk_model.specs.declared.areas.Areas.{Areas}
use Rattle.disk_model.specs.Calls.{IsImage}
use Rattle.checkpoint.specs.Checkpoints.{Checkpoint}
use Rattle.transcript.specs.declared.line.ShownState.{ShownState}
use Rattle.protocol.specs.Lines.{Line, Answer, State}
use Rattle.line_rules.specs.Owed.{owed}
use Rattle.line_rules.specs.Rules.{Answers, F3, F4}
use Rattle.line_runs.specs.Invariant.{latest_first}
use Rattle.bare_world.specs.Worlds.{Possible}
use Rattle.world_model.specs.Worlds.{Host, World, node_at}
use Rattle.disk_states.specs.States.{StandsFor}
use Rattle.disk_keeps.specs.Kept.{told_of}
use Rattle.state_steps.specs.States.{IsCheckpointAt}
use Rattle.state_runs.specs.Laws.{IsUnlisted}

-- Each deliver line is followed by the reply lines that it owes, and no other line stands among these; states and answers are those
-- of the book of the lines before them.
pub record AreFolds (c : Config) (lines : List Line) : Type 0 where
  pub replies : (before after : List Line) (l : Line) → IsUnlisted l → lines ≡ before ++ l ∷ after → F3 c (latest_first before) l
  pub paid : owed c (latest_first lines) ≡ []
  pub states : (before after : List Line) (x : NodeId) (shown : Option ShownState) → lines ≡ before ++ State x shown ∷ after → F4 c (latest_first before) (State x shown)
  pub answers : (before after : List Line) (client : ClientId) (seq : ℕ) (bytes : List ℕ) → lines ≡ before ++ Answer client seq bytes ∷ after → Answers c (latest_first before) client seq bytes

-- an image stands for a state of the node, and where the node is a replica, the newest checkpoint of it is the state at its tuple
pub record HasStateAt (c : Config) (lines : List Line) (id : NodeId) (image : Areas) : Type 0 where
  pub state : Possible
  pub stands : StandsFor id state image
  pub newest : (p : PartitionTable) (newest : Checkpoint) → partition_of c.partitions id ≡ Some p → state.newest ≡ Some newest → IsCheckpointAt c (latest_first lines) p newest

-- each image that a crash may leave of each node's disk
abbrev pub ImagesHaveStates : Config → List Line → World → Type 0
ImagesHaveStates c lines w = (id : NodeId) (host : Host) → node_at w id ≡ Some host → (image : Areas) → IsImage (told_of host) image → HasStateAt c lines id image
