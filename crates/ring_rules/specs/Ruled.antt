-- What a rule of a ring makes at a node whose part was settled.
use Rattle.std.specs.Prelude.{◌≡◌, ℕ, true}
use Rattle.mrp_types.specs.declared.value.Value.{Value}
use Rattle.vote_state.specs.declared.ring.RingState.{RingState}
use Rattle.protocol.specs.Parts.{Ring, Part, Effects}
use Rattle.protocol.specs.Rings.{is_acceptor}
use Rattle.ring_tables.specs.Settled.{RoleSettled, PartFine}
use Rattle.ring_tables.specs.Done.{After, AtAcceptor}
use Rattle.ring_safety.specs.Faces.{Face}

-- what a rule makes of a part: the face goes on, and the part is settled again
pub record Ruled (ring : Ring) (faces : ℕ → Face Value) (a : ℕ) (f : Face Value) (kept : RingState) (effects : Effects) : Type 0 where
  pub after : After ring faces a f kept f effects
  pub fine : PartFine ring effects.part

-- at an acceptor whose coordinator is settled
pub record AtSettled (ring : Ring) (faces : ℕ → Face Value) (a : ℕ) (f : Face Value) (part : Part) : Type 0 where
  pub at : AtAcceptor ring faces a f part
  pub member : is_acceptor ring ≡ true
  pub settled : RoleSettled ring part.kept.trim part.coordinator.role
