use Rattle.disk_runs.proofs.Whole.{schedule_goes}
use Rattle.disk_runs.proofs.Works.{all_work}
use Rattle.disk_runs.proofs.every_schedule_is_a_run.Goals as goal

pub returns : goal.returns
returns c = λ config valid. schedule_goes config valid (all_work config valid)
