-- How the view of a node stands for a face of a ring's machine, at any node.
use Rattle.std.specs.Prelude.{List, ◌≡◌, ℕ, ◌<◌, length, Some}
use Rattle.std.specs.List.{AllByRecursion}
use Rattle.mrp_types.specs.declared.value.Value.{Value}
use Rattle.mrp_config.specs.declared.tables.RingTable.{RingTable}
use Rattle.vote_state.specs.State.{ring_at}
use Rattle.ring_reach.specs.Reach.{Reaches, seen}
use Rattle.protocol.specs.Parts.{Ring}
use Rattle.protocol.specs.Node.{View, RingPart, Event, Takes, Stepped, part_at}
use Rattle.ring_safety.specs.Faces.{Face}
use Rattle.ring_kept.specs.Kept.{KeptTies}
use Rattle.ring_tables.specs.Ties.{acceptors, PartTies, SaidBy, IsSaid, IsTold, AreRecorded, AreTold}
use Rattle.ring_tables.specs.Settled.{PartFine}
use Rattle.beside_rings.specs.Beside.{changes_in}

pub record PartStands (ring : Ring) (now : ℕ → Face Value) (f : Face Value) (view : View) (p : RingPart) : Type 0 where
  pub of_ring : p.ring ≡ ring
  pub ties : PartTies (acceptors ring) now f p.part
  pub kept : p.part.kept ≡ ring_at view.journal.state ring.id
  pub fine : PartFine ring p.part

-- f is the node's own face, among those that it sees; a node that is no acceptor of the ring keeps nothing of it
pub record ViewStands (ring : Ring) (now : ℕ → Face Value) (f : Face Value) (view : View) : Type 0 where
  pub rings : ring.id.0 < length view.journal.state.rings
  pub kept : KeptTies f (ring_at view.journal.state ring.id)
  pub part : (p : RingPart) → part_at view ring.id ≡ Some p → PartStands ring now f view p

-- a frame that comes was said
abbrev pub EventSaid : Ring → (ℕ → Face Value) → Event → Type 0
EventSaid ring faces (Takes frame) = SaidBy ring faces frame.from frame.body
EventSaid ring faces other = Unit {0}

-- What a step makes: deeds that may be done, and a view and frames that stand for the face that they lead to.
pub record StepStands (ring : Ring) (faces : ℕ → Face Value) (a : ℕ) (start : Face Value) (effects : Stepped) : Type 0 where
  pub face : Face Value
  pub reached : Reaches (acceptors ring) faces a start face
  pub stands : ViewStands ring (seen faces a face) face effects.view
  pub frames : AllByRecursion (IsSaid ring (seen faces a face)) effects.frames
  pub lines : AllByRecursion (IsTold ring (seen faces a face)) effects.lines
  pub recorded : AreRecorded ring.id start face (changes_in effects.work)
  pub told : AreTold ring a start face effects.frames

-- ---- a deployment

-- the tables of the deployment that have a ring's number are its table
abbrev pub IsTheOnly : RingTable → List RingTable → Type 0
IsTheOnly table tables = AllByRecursion (λ (t : RingTable). t.id.0 ≡ table.id.0 → t ≡ table) tables
