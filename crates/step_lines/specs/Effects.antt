-- What a rule of a ring makes, with respect to the lines before the step: it needs nothing of what the step prints.
use Rattle.std.specs.Prelude.{◌≡◌, ℕ, ◌<◌, ◌≤◌, List, [], ◌∷◌, ◌++◌, Option, Some, None}
use Rattle.std.specs.List.{AllByRecursion}
use Rattle.mrp_types.specs.declared.id.NodeId.{NodeId}
use Rattle.mrp_types.specs.declared.id.Party.TheVariants.{Node}
use Rattle.mrp_types.specs.declared.id.RingId.{RingId}
use Rattle.mrp_types.specs.declared.value.Value.{Value}
use Rattle.mrp_config.specs.Config.{Config, partition_of}
use Rattle.mrp_config.specs.declared.tables.PartitionTable.{PartitionTable}
use Rattle.checkpoint.specs.Checkpoints.{Checkpoint}
use Rattle.vote_state.specs.State.{State, taken}
use Rattle.protocol.specs.Lines.{Line, Learn, Trim, BallotLimit, InstanceLimit}
use Rattle.protocol.specs.Parts.{Ring, Effects}
use Rattle.protocol.specs.Node.{StepSoFar, Event, Ticks, Takes, Leads, Stepped}
use Rattle.faithful.specs.Scanners.{past, book}
use Rattle.faithful.specs.Rules.{Trims}
use Rattle.recovery_lines.specs.Ties.{IsSaid, PartySaid, IsCovered, AreCovered, CurrentLines, PartTold, KeptLines, ActLines, AfterLines, rings_in}

-- ---- each learn line agrees with the book before it

abbrev pub Agrees : List Line → Line → Type 0
Agrees before (Learn node ring lo hi value) = (inst : ℕ) (known : Value) → lo ≤ inst → inst < hi → book before ring inst ≡ Some known → known ≡ value
Agrees before other = Unit {0}

abbrev pub AllAgree : List Line → Type 0
AllAgree [] = Unit {0}
AllAgree (l ∷ before) = Agrees before l × AllAgree before

-- ---- rules

-- a line that a rule of a ring may print: a trim that was told, a limit, or what is learned
abbrev pub IsPlain : Config → List Line → Line → Type 0
IsPlain c lines (Trim node ring inst) = Trims c lines node ring inst
IsPlain c lines (BallotLimit node ring) = Unit {0}
IsPlain c lines (InstanceLimit node ring) = Unit {0}
IsPlain c lines (Learn node ring lo hi value) = Unit {0}
IsPlain c lines other = ⊥

-- a rule's answers of a round, its trims, its frames and its lines were told, and it leaves the epoch
pub record EffectsTold (c : Config) (lines : List Line) (ring : RingId) (effects : Effects) : Type 0 where
  pub round : CurrentLines c lines ring effects.part.rounds.current
  pub trim : IsCovered c lines ring effects.part.kept.trim
  pub frames : AllByRecursion (IsSaid c lines) effects.frames
  pub plain : AllByRecursion (IsPlain c lines) effects.lines
  pub changes : (s : State) → AreCovered c lines s → AreCovered c lines (taken effects.changes s)
  pub epoch : (s : State) → (taken effects.changes s).epoch ≡ s.epoch

-- one word more of a rule
pub record Stays (c : Config) (lines : List Line) (ring : RingId) (old new : Effects) : Type 0 where
  pub learner : new.part.learner ≡ old.part.learner
  pub told : EffectsTold c lines ring old → EffectsTold c lines ring new

-- of a step on its way: the answers of rounds and the trims, of its parts and of its changes
pub record AllTold (c : Config) (lines : List Line) (a : StepSoFar) : Type 0 where
  pub parts : AllByRecursion (PartTold c lines) a.view.parts
  pub trims : AreCovered c lines (taken a.changes a.view.journal.state)
  pub epoch : (taken a.changes a.view.journal.state).epoch ≡ a.view.journal.state.epoch

-- A step goes on: its lines only grow; who the node is, its rings, its journal and its checkpoints stay; and what was told is told.
pub record Onward (c : Config) (lines : List Line) (a b : StepSoFar) : Type 0 where
  pub more : List Line
  pub printed : b.lines ≡ a.lines ++ more
  pub id : b.view.id ≡ a.view.id
  pub rings : rings_in b.view.parts ≡ rings_in a.view.parts
  pub journal : b.view.journal ≡ a.view.journal
  pub checkpoints : b.view.checkpoints ≡ a.view.checkpoints
  pub told : AllTold c lines a → AllTold c lines b

-- A step goes on, and its lines are right where each of its learn lines agrees with the book before it.
pub record Goes (c : Config) (before : List Line) (a b : StepSoFar) : Type 0 where
  pub onward : Onward c before a b
  pub right : (lines : List Line) → ActLines c before lines a → AllTold c before a → AllAgree (past before b.lines) → AfterLines c before b

-- ---- what a step leaves, whether its work is done or stopped

-- the state of a disk, where the node is a replica
abbrev pub KeptFor : Config → List Line → NodeId → ℕ → Option Checkpoint → Option PartitionTable → Type 0
KeptFor c lines x epoch newest None = Unit {0}
KeptFor c lines x epoch newest (Some p) = KeptLines c lines x epoch p newest

-- with respect to the lines before the step
pub record LeftTold (c : Config) (lines : List Line) (x : NodeId) (rings : List Ring) (effects : Stepped) : Type 0 where
  pub id : effects.view.id ≡ x
  pub rings_stay : rings_in effects.view.parts ≡ rings
  pub parts : AllByRecursion (PartTold c lines) effects.view.parts
  pub covered : AreCovered c lines effects.view.journal.state
  pub kept : KeptFor c lines x effects.view.journal.state.epoch effects.view.checkpoints.newest (partition_of c.partitions x)

-- what came was said
abbrev pub EventSaid : Config → List Line → NodeId → Event → Type 0
EventSaid c lines x Ticks = Unit {0}
EventSaid c lines x (Takes frame) = PartySaid c lines frame.from (Node x) frame.body
EventSaid c lines x (Leads ring) = Unit {0}
