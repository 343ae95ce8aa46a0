use Rattle.disk_runs.proofs.Whole.{run_goes}
use Rattle.disk_runs.proofs.Works.{all_work}
use Rattle.disk_runs.proofs.every_run_is_one_without_bytes.Goals as goal

pub returns : goal.returns
returns c = λ config valid. run_goes config valid (all_work config valid)
