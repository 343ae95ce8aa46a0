-- By induction on the first list.
use Rattle.ring_safety.proofs.Turns.{can_more, run_one_more}
use Rattle.ring_safety.proofs.one_more_event.Goals as goal

pub returns-clause-can : goal.returns-clause-can
returns-clause-can g c = can_more

pub returns-clause-world : goal.returns-clause-world
returns-clause-world g c = run_one_more
