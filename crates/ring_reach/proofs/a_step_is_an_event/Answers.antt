-- The event has the deeds.
use Rattle.ring_reach.proofs.Lifting.{has_stepped, was_stopped}
use Rattle.ring_reach.proofs.a_step_is_an_event.Goals as goal

pub returns-clause-ended : goal.returns-clause-ended
returns-clause-ended g c = has_stepped

pub returns-clause-stopped : goal.returns-clause-stopped
returns-clause-stopped g c = was_stopped
