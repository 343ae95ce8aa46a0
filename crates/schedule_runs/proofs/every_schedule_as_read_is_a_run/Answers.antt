use Rattle.disk_runs.proofs.Whole.{schedule_goes}
use Rattle.disk_runs.proofs.Works.{all_work}
use Rattle.schedule_runs.proofs.Asking.{all_may, all_shown}
use Rattle.schedule_runs.proofs.every_schedule_as_read_is_a_run.Goals as goal

pub returns : goal.returns
returns c = λ config valid bytes events is. schedule_goes config valid (all_work config valid) events (all_may config events is.each) (all_shown config events is.each)
