use Rattle.beside_rings.proofs.Recovered.{untouched_safe, untouched_tells, untouched_tells_part}
use Rattle.beside_rings.proofs.Asked.{untouched_beat}
use Rattle.beside_rings.proofs.asking_touches_no_ring.Goals as goal

pub returns-clause-beat : goal.returns-clause-beat
returns-clause-beat c = untouched_beat

pub returns-clause-safe : goal.returns-clause-safe
returns-clause-safe c = untouched_safe

pub returns-clause-checkpoint : goal.returns-clause-checkpoint
returns-clause-checkpoint c = untouched_tells

pub returns-clause-part : goal.returns-clause-part
returns-clause-part c = untouched_tells_part
