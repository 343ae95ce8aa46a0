-- How what a rule has made so far stands for a face of the ring's machine, and what is static at an acceptor.
use Rattle.std.specs.Prelude.{◌≡◌, ℕ, ◌<◌, true, Some, get_or}
use Rattle.std.specs.List.{AllByRecursion}
use Rattle.mrp_types.specs.declared.id.NodeId.{NodeId}
use Rattle.mrp_types.specs.declared.value.Value.{Value}
use Rattle.vote_state.specs.declared.ring.RingState.{RingState}
use Rattle.ring_reach.specs.Reach.{Reaches, seen}
use Rattle.protocol.specs.Parts.{Ring, Part, Effects}
use Rattle.protocol.specs.Rings.{is_own, position_of}
use Rattle.ring_tables.specs.Ties.{acceptors, IsRangeChosen, RoleTies, LearnerTies, PartTies, IsSaid, AreRecorded, AreTold}
use Rattle.ring_safety.specs.Faces.{Face}
use Rattle.ring_safety.specs.Invariant.{Local}
use Rattle.ring_safety.specs.Rules.{Grows}
use Rattle.ring_kept.specs.Kept.{KeptTies, kept_after}

-- ---- what a rule has made

-- all but the role of the coordinator
pub record DoneTies (ring : Ring) (faces : ℕ → Face Value) (a : ℕ) (start : Face Value) (base : RingState) (f : Face Value) (effects : Effects) : Type 0 where
  pub reached : Reaches (acceptors ring) faces a start f
  pub kept : KeptTies f effects.part.kept
  pub learner : LearnerTies (acceptors ring) (seen faces a f) effects.part.learner
  pub changes : kept_after ring.id effects.changes base ≡ effects.part.kept
  pub frames : AllByRecursion (IsSaid ring (seen faces a f)) effects.frames
  pub learned : AllByRecursion (IsRangeChosen (acceptors ring) (seen faces a f)) effects.learned
  pub recorded : AreRecorded ring.id start f effects.changes

-- From `start`, with `kept` of the ring, the rule has come to the face f and made this.
pub record EffectsTie (ring : Ring) (faces : ℕ → Face Value) (a : ℕ) (start : Face Value) (kept : RingState) (f : Face Value) (effects : Effects) : Type 0 where
  pub done : DoneTies ring faces a start kept f effects
  pub role : RoleTies (acceptors ring) (seen faces a f) f effects.part.coordinator.role
  pub told : AreTold ring a start f effects.frames

-- and to some face that f grows into
pub record After (ring : Ring) (faces : ℕ → Face Value) (a : ℕ) (start : Face Value) (kept : RingState) (f : Face Value) (effects : Effects) : Type 0 where
  pub face : Face Value
  pub grows : Grows f face
  pub ties : EffectsTie ring faces a start kept face effects

-- ---- where a rule begins

-- what is static at an acceptor of a ring
pub record Seats (ring : Ring) (a : ℕ) : Type 0 where
  pub seat : position_of ring ring.own ≡ Some a
  pub within : a < acceptors ring
  pub seats : (node : NodeId) (k : ℕ) → position_of ring node ≡ Some k → k < acceptors ring
  pub alone : (k : ℕ) → k < acceptors ring → is_own ring (get_or ring.acceptors k (record { 0 = 0 })) ≡ true → k ≡ a

-- At an acceptor of the ring, whose part stands for its face f; each durable face keeps the machine's invariant, and so does f.
pub record AtAcceptor (ring : Ring) (faces : ℕ → Face Value) (a : ℕ) (f : Face Value) (part : Part) : Type 0 where
  pub seats : Seats ring a
  pub all : (k : ℕ) → Local (acceptors ring) faces k (faces k)
  pub local : Local (acceptors ring) faces a f
  pub ties : PartTies (acceptors ring) (seen faces a f) f part
