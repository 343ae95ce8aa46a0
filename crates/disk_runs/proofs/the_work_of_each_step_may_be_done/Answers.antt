use Rattle.disk_runs.proofs.Works.{may_work}
use Rattle.disk_runs.proofs.the_work_of_each_step_may_be_done.Goals as goal

pub returns : goal.returns
returns c = λ config valid past ran id view t here up event come room. may_work config valid past ran id view here t up event come room
