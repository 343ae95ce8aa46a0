-- What ties a node on its disk to a node without bytes, and what a step and an opening of it come to.
use Rattle.std.specs.Prelude.{◌≡◌, ◌<◌, ◌^◌, List, [], ◌∷◌, ◌++◌}
use Rattle.mrp_types.specs.declared.id.NodeId.{NodeId}
use Rattle.mrp_config.specs.Config.{Config}
use Rattle.disk_model.specs.Calls.{Told}
use Rattle.disk_model.specs.Sim.{Sim}
use Rattle.protocol.specs.Lines.{Cause, Full}
use Rattle.protocol.specs.Lines as line
use Rattle.protocol.specs.Node.{View, Stepped}
use Rattle.protocol.specs.Opening.{opened}
use Rattle.bare_world.specs.Worlds.{Possible, Host as BareHost, Up as BareUp, Down as BareDown, possible_of}
use Rattle.bare_world.specs.Runs.{MayOpen, MayLeave}
use Rattle.world_model.specs.Disks.{no_plan}
use Rattle.world_model.specs.Opening.{Kept}
use Rattle.world_model.specs.Worlds.{Host, Up, Down, World, Outcome, prints, sends, with_node}
use Rattle.disk_states.specs.States.{AllStandFor, IsHeld}

-- ---- a node

-- a node that is up: its disk holds its own journal, of the deployment's limit, and its checkpoints
pub record UpTies (config : Config) (id : NodeId) (view : View) (t : Told) : Type 0 where
  pub held : IsHeld view.journal view.checkpoints t
  pub node : view.journal.id ≡ id
  pub limit : view.journal.log.limit ≡ config.journal
  pub epoch : view.journal.state.epoch < 2 ^ 32

-- one that is down: each image of its disk stands for one of the two states
pub record DownTies (id : NodeId) (t : Told) (durable pending : Possible) : Type 0 where
  pub images : AllStandFor id t durable pending
  pub before : durable.state.epoch < 2 ^ 32
  pub after : pending.state.epoch < 2 ^ 32

abbrev pub HostTies : Config → NodeId → Host → BareHost → Type 0
HostTies config id (Up view disk) (BareUp other) = (other ≡ view) × UpTies config id view disk.told
HostTies config id (Up view disk) (BareDown durable pending) = ⊥
HostTies config id (Down told plan) (BareUp other) = ⊥
HostTies config id (Down told plan) (BareDown durable pending) = DownTies id told durable pending

-- ---- a step

-- the node is down, with one line
abbrev pub fallen : NodeId → Told → Cause → World → Outcome
fallen id told cause w = prints (line.Down id cause ∷ []) (with_node id (Down told no_plan) w)

-- the node is up, with its frames and its lines
abbrev pub gone_on : NodeId → List line.Line → Stepped → Sim → World → Outcome
gone_on id before made disk w = prints (before ++ made.lines) (sends made.frames (with_node id (Up made.view disk) w))

-- A step ends well; or its work is stopped, and the disk stands for the state before it or after it; or there is no room.
pub data StepEnds (config : Config) (id : NodeId) (view : View) (t : Told) (made : Stepped) (w : World) (o : Outcome) : Type 0 where
  Ended : (disk : Sim) → o ≡ gone_on id [] made disk w → UpTies config id made.view disk.told → StepEnds config id view t made w o
  Broke : (told : Told) (cause : Cause) → o ≡ fallen id told cause w → DownTies id told (possible_of view) (possible_of made.view) → StepEnds config id view t made w o
  Filled : o ≡ fallen id t Full w → DownTies id t (possible_of view) (possible_of view) → StepEnds config id view t made w o

-- ---- an opening

-- An opening on a state ends well, and the node goes on with what it has read; or it fails, and the disk stands for that state or
-- for what the opening left.
pub data OpenEnds (config : Config) (id : NodeId) (stood : Possible) (w : World) (o : Outcome) : Type 0 where
  Opened : (kept : Kept) (disk : Sim) → o ≡ gone_on id (line.Up id kept.journal.state.epoch ∷ []) (opened config id kept.journal kept.checkpoints) disk w
      → MayOpen config id stood kept.journal kept.checkpoints → UpTies config id (opened config id kept.journal kept.checkpoints).view disk.told → OpenEnds config id stood w o
  Failed : (told : Told) (cause : Cause) (left : Possible) → o ≡ fallen id told cause w → MayLeave stood left → DownTies id told stood left → OpenEnds config id stood w o
