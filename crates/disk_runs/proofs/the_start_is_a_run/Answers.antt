use Rattle.disk_runs.proofs.Whole.{start_goes}
use Rattle.disk_runs.proofs.Works.{all_work}
use Rattle.disk_runs.proofs.the_start_is_a_run.Goals as goal

pub returns : goal.returns
returns c = λ config valid. start_goes config valid (all_work config valid)
