use Rattle.std.proofs.Common.{refl}
use Rattle.ring_tables.proofs.Acceptor.{prepares_ties, accepts_ties}
use Rattle.ring_tables.proofs.an_acceptor_promises_and_votes.Goals as goal

pub returns-clause-prepare : goal.returns-clause-prepare
returns-clause-prepare c = λ ring faces a f part at. prepares_ties ring faces a at.seats.seat at.seats.within at.all f at.local part.kept part refl at.ties at.seats.alone

pub returns-clause-accept : goal.returns-clause-accept
returns-clause-accept c = λ ring faces a f part at link. accepts_ties ring faces a at.seats.seat at.seats.within at.all f at.local part.kept link part refl at.ties
