use Rattle.std.proofs.Common.{refl}
use Rattle.protocol.specs.Effects.{no_effects}
use Rattle.ring_tables.proofs.Effects.{effects_none}
use Rattle.ring_tables.proofs.Offering.{proposes_after_ties}
use Rattle.ring_tables.proofs.Settling.{proposes_after_settled, levels_ties}
use Rattle.ring_tables.proofs.a_coordinator_proposes.Goals as goal

pub returns-clause-propose : goal.returns-clause-propose
returns-clause-propose c = λ ring faces a f part at link.
    proposes_after_ties ring faces a at.seats.seat at.seats.within at.all f at.local part.kept f link (no_effects part) (effects_none ring faces a f part.kept part at.ties refl)

pub returns-clause-settled : goal.returns-clause-settled
returns-clause-settled c = λ ring faces a f part at link.
    proposes_after_settled ring faces a at.seats.seat at.seats.within at.all f at.local part.kept f link (no_effects part) (effects_none ring faces a f part.kept part at.ties refl)

pub returns-clause-level : goal.returns-clause-level
returns-clause-level c = λ ring faces a f part at settled link. levels_ties ring faces a at.seats.seat at.seats.within at.all f at.local part.kept link part refl at.ties settled
