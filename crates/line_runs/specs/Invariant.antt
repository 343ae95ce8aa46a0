-- What every run keeps of a world's lines, frames and hosts. The lines stand with the latest first.
use Rattle.std.specs.Prelude.{◌≡◌, ℕ, List, []}
use Rattle.std.specs.List.{AllByRecursion}
use Rattle.mrp_types.specs.declared.id.NodeId.{NodeId}
use Rattle.mrp_config.specs.Config.{Config, partition_of}
use Rattle.protocol.specs.Lines.{Line}
use Rattle.protocol.specs.Node.{View}
use Rattle.bare_world.specs.Worlds.{Possible, Host, Up, Down, World}
use Rattle.faithful.specs.Scanners.{past}
use Rattle.recovery_lines.specs.Ties.{AreRight, IsPlaced, AreCovered, PartTold, PartLines, KnownLines, ReplicaLines, IsSaid, rings_in}
use Rattle.step_lines.specs.Effects.{KeptFor}

abbrev pub node : ℕ → NodeId
node n = record { 0 = n }

-- a run's lines, the latest first
abbrev pub latest_first : List Line → List Line
latest_first lines = past [] lines

-- what a disk of a node may stand for
pub record PossibleLines (c : Config) (lines : List Line) (n : ℕ) (s : Possible) : Type 0 where
  pub kept : KeptFor c lines (node n) s.state.epoch s.newest (partition_of c.partitions (node n))
  pub covered : AreCovered c lines s.state

pub record UpLines (c : Config) (lines : List Line) (n : ℕ) (view : View) : Type 0 where
  pub id : view.id ≡ node n
  pub placed : AllByRecursion (IsPlaced c (node n)) (rings_in view.parts)
  pub told : AllByRecursion (PartTold c lines) view.parts
  pub covered : AreCovered c lines view.journal.state
  pub parts : AllByRecursion (PartLines lines) view.parts
  pub replica : ReplicaLines c lines (node n) view.journal.state.epoch view.checkpoints.newest view.service

abbrev pub HostLines : Config → List Line → ℕ → Host → Type 0
HostLines c lines n (Up view) = UpLines c lines n view
HostLines c lines n (Down durable pending) = PossibleLines c lines n durable × PossibleLines c lines n pending

-- with respect to lines that stand with the latest first
pub record TiedTo (c : Config) (lines : List Line) (w : World) : Type 0 where
  pub right : AreRight c lines
  pub known : KnownLines c lines
  pub frames : AllByRecursion (IsSaid c lines) w.frames
  pub hosts : (n : ℕ) → HostLines c lines n (w.hosts n)

abbrev pub WorldLines : Config → World → Type 0
WorldLines c w = TiedTo c (latest_first w.lines) w
