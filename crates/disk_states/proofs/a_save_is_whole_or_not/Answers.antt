use Rattle.disk_states.proofs.Working.{save_brings}
use Rattle.disk_states.proofs.a_save_is_whole_or_not.Goals as goal

pub returns : goal.returns
returns c = save_brings
