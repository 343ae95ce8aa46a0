use Rattle.beside_rings.proofs.Recovered.{untouched_begins, untouched_answered, untouched_part, untouched_gone, untouched_recovery, untouched_recovers_if_trimmed}
use Rattle.beside_rings.proofs.recovery_touches_no_ring.Goals as goal

pub returns-clause-begin : goal.returns-clause-begin
returns-clause-begin c = untouched_begins

pub returns-clause-answer : goal.returns-clause-answer
returns-clause-answer c = untouched_answered

pub returns-clause-part : goal.returns-clause-part
returns-clause-part c = untouched_part

pub returns-clause-gone : goal.returns-clause-gone
returns-clause-gone c = untouched_gone

pub returns-clause-tick : goal.returns-clause-tick
returns-clause-tick c = untouched_recovery

pub returns-clause-recovers_if_trimmed : goal.returns-clause-recovers_if_trimmed
returns-clause-recovers_if_trimmed c = untouched_recovers_if_trimmed
