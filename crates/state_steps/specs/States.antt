-- What a replica keeps of states with respect to the lines so far, between two steps and within one.
use Rattle.std.specs.Prelude.{◌≡◌, ℕ, ◌<◌, true, List, [], ◌∷◌, Option, Some, None, length}
use Rattle.std.specs.List.{AllByRecursion}
use Rattle.mrp_types.specs.declared.id.NodeId.{NodeId}
use Rattle.mrp_types.specs.declared.id.RingId.{RingId}
use Rattle.mrp_types.specs.declared.value.Entry.{Entry}
use Rattle.mrp_config.specs.Config.{Config, partition_of}
use Rattle.mrp_config.specs.Valid.{IncreasesFrom, numbers_of_rings}
use Rattle.mrp_config.specs.declared.tables.PartitionTable.{PartitionTable}
use Rattle.checkpoint.specs.Checkpoints.{Checkpoint}
use Rattle.state_laws.specs.States.{HasFewLogs}
use Rattle.plain_model.specs.Tuples.{round_sizes, is_tuple_of}
use Rattle.plain_model.specs.StateBytes.{state_bytes, state_of}
use Rattle.plain_model.specs.Fold.{entries_below, replica_after}
use Rattle.protocol.specs.Lines.{Line}
use Rattle.line_rules.specs.Scanners.{past, learned}
use Rattle.line_rules.specs.Rules.{HasNode}
use Rattle.protocol.specs.Node.{Choice, Event, Takes, Stage, Recovering, Ready, Service, StepSoFar, Stepped, View}
use Rattle.recovery_lines.specs.Ties.{IsPlaced, PartLines, rings_in}
use Rattle.quiet_rules.specs.Quiet.{AllPaid, OwnNamesFit}
use Rattle.state_steps.specs.Folded.{IsStateAt, AreBytesAt, AreGathered, PartyFolded, SentFolded}

-- ---- the deployment

-- what is used of a partition of a valid deployment
pub record HasLimits (p : PartitionTable) : Type 0 where
  pub logs : HasFewLogs p
  pub rising : IncreasesFrom 0 (numbers_of_rings p.rings)
  pub some : 0 < length p.rings

pub record IsLimited (c : Config) : Type 0 where
  pub rounds : (ring : ℕ) → 0 < round_sizes c ring
  pub partitions : (node : NodeId) (p : PartitionTable) → partition_of c.partitions node ≡ Some p → HasLimits p

-- ---- checkpoints

-- The tuple of a checkpoint is a valid one of the partition, its bytes are those of the state there, and they are read back.
pub record IsCheckpointAt (c : Config) (lines : List Line) (p : PartitionTable) (newest : Checkpoint) : Type 0 where
  pub valid : is_tuple_of (round_sizes c) p.rings newest.tuple ≡ true
  pub entries : List Entry
  pub below : entries_below (round_sizes c) (learned lines) newest.tuple ≡ Some entries
  pub bytes : newest.state ≡ state_bytes (replica_after p entries)
  pub read : state_of p newest.state ≡ Some (replica_after p entries)

abbrev pub NewestAt : Config → List Line → Option PartitionTable → Option Checkpoint → Type 0
NewestAt c lines (Some p) (Some newest) = IsCheckpointAt c lines p newest
NewestAt c lines p newest = Unit {0}

-- ---- a replica

-- what came of a chosen checkpoint
abbrev pub ChoiceAt : Config → List Line → PartitionTable → Option Choice → Type 0
ChoiceAt c lines p None = Unit {0}
ChoiceAt c lines p (Some choice) = AreGathered c lines p choice.tuple choice.bytes

-- a ready replica stands at a valid tuple, with the state there
abbrev pub StageAt : Config → List Line → PartitionTable → Stage → Type 0
StageAt c lines p (Recovering attempt) = ChoiceAt c lines p attempt.choice
StageAt c lines p (Ready standing) = (is_tuple_of (round_sizes c) p.rings standing.tuple ≡ true) × IsStateAt c lines p standing.tuple standing.replica

pub record ServiceAt (c : Config) (lines : List Line) (x : NodeId) (service : Service) : Type 0 where
  pub replica : partition_of c.partitions x ≡ Some service.partition
  pub stage : StageAt c lines service.partition service.stage

abbrev pub ReplicaAt : Config → List Line → NodeId → Option Service → Type 0
ReplicaAt c lines x None = Unit {0}
ReplicaAt c lines x (Some service) = ServiceAt c lines x service

-- ---- a step

-- A step on its way: `before` are the lines before it, `lines` those so far. Its checkpoint is one of the lines before it.
pub record ActAt (c : Config) (before lines : List Line) (a : StepSoFar) : Type 0 where
  pub printed : past before a.lines ≡ lines
  pub fits : HasNode c a.view.id
  pub placed : AllByRecursion (IsPlaced c a.view.id) (rings_in a.view.parts)
  pub paid : AllPaid c lines
  pub names : AllByRecursion (OwnNamesFit c) a.lines
  pub frames : AllByRecursion (SentFolded c lines) a.frames
  pub replies : AllByRecursion (SentFolded c lines) a.replies
  pub parts : AllByRecursion (PartLines lines) a.view.parts
  pub replica : ReplicaAt c lines a.view.id a.view.service
  pub newest : NewestAt c before (partition_of c.partitions a.view.id) a.view.checkpoints.newest

-- after some lines more
pub record AfterAt (c : Config) (before : List Line) (a : StepSoFar) : Type 0 where
  pub lines : List Line
  pub at : ActAt c before lines a

-- what a step leaves: `before` are the lines before it
pub record StepAt (c : Config) (before : List Line) (effects : Stepped) : Type 0 where
  pub paid : AllPaid c (past before effects.lines)
  pub names : AllByRecursion (OwnNamesFit c) effects.lines
  pub frames : AllByRecursion (SentFolded c (past before effects.lines)) effects.frames
  pub replica : ReplicaAt c (past before effects.lines) effects.view.id effects.view.service
  pub newest : NewestAt c before (partition_of c.partitions effects.view.id) effects.view.checkpoints.newest

-- between two steps
pub record ViewAt (c : Config) (lines : List Line) (view : View) : Type 0 where
  pub paid : AllPaid c lines
  pub replica : ReplicaAt c lines view.id view.service
  pub newest : NewestAt c lines (partition_of c.partitions view.id) view.checkpoints.newest

-- what came was sent so
abbrev pub EventFolded : Config → List Line → Event → Type 0
EventFolded c lines (Takes frame) = PartyFolded c lines frame.from frame.body
EventFolded c lines other = Unit {0}
