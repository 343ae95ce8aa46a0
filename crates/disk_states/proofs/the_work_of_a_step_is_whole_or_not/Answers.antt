use Rattle.disk_states.proofs.Working.{work_brings}
use Rattle.disk_states.proofs.the_work_of_a_step_is_whole_or_not.Goals as goal

pub returns : goal.returns
returns c = work_brings
