-- What every run keeps of states and replies, by the lines so far, which stand with the latest first.
use Rattle.std.specs.Prelude.{ℕ, List}
use Rattle.std.specs.List.{AllByRecursion}
use Rattle.mrp_config.specs.Config.{Config, partition_of}
use Rattle.protocol.specs.Lines.{Line}
use Rattle.protocol.specs.Node.{View}
use Rattle.bare_world.specs.Worlds.{Possible, Host, Up, Down, World}
use Rattle.line_rules.specs.Rules.{HasNode}
use Rattle.quiet_rules.specs.Quiet.{AllPaid, OwnNamesFit}
use Rattle.line_runs.specs.Invariant.{node, latest_first}
use Rattle.state_steps.specs.Folded.{SentFolded}
use Rattle.state_steps.specs.States.{NewestAt, ReplicaAt}

-- of what a disk may stand for: where the node is a replica, the newest checkpoint is the state at its tuple
abbrev pub PossibleAt : Config → List Line → ℕ → Possible → Type 0
PossibleAt c lines n s = NewestAt c lines (partition_of c.partitions (node n)) s.newest

-- A node that is up is one of the deployment; its replica keeps what the fold says, and its newest checkpoint is the state at its
-- tuple.
pub record UpAt (c : Config) (lines : List Line) (n : ℕ) (view : View) : Type 0 where
  pub there : HasNode c (node n)
  pub replica : ReplicaAt c lines (node n) view.service
  pub newest : NewestAt c lines (partition_of c.partitions (node n)) view.checkpoints.newest

abbrev pub HostAt : Config → List Line → ℕ → Host → Type 0
HostAt c lines n (Up view) = UpAt c lines n view
HostAt c lines n (Down durable pending) = PossibleAt c lines n durable × PossibleAt c lines n pending

-- Each line stands in its turn and nothing is owed; the names of each fit the deployment; each frame that was ever sent is the
-- fold's, and so is what nodes keep.
pub record StatesAt (c : Config) (lines : List Line) (w : World) : Type 0 where
  pub paid : AllPaid c lines
  pub names : AllByRecursion (OwnNamesFit c) lines
  pub frames : AllByRecursion (SentFolded c lines) w.frames
  pub hosts : (n : ℕ) → HostAt c lines n (w.hosts n)

abbrev pub KeepsStates : Config → World → Type 0
KeepsStates c w = StatesAt c (latest_first w.lines) w
