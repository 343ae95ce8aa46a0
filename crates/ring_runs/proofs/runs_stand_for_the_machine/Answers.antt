-- By induction on the run.
use Rattle.ring_runs.proofs.Whole.{reached, onward}
use Rattle.ring_runs.proofs.runs_stand_for_the_machine.Goals as goal

pub returns-clause-reached : goal.returns-clause-reached
returns-clause-reached c = reached

pub returns-clause-onward : goal.returns-clause-onward
returns-clause-onward c = onward
