use Rattle.schedule_runs.proofs.Asking.{all_may, all_shown}
use Rattle.schedule_runs.proofs.what_is_read_may_be_scheduled.Goals as goal

pub returns-clause-may : goal.returns-clause-may
returns-clause-may c = λ config bytes events is. all_may config events is.each

pub returns-clause-shown : goal.returns-clause-shown
returns-clause-shown c = λ config bytes events is. all_shown config events is.each
