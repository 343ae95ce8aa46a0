use Rattle.disk_states.proofs.Working.{record_brings}
use Rattle.disk_states.proofs.a_record_is_whole_or_not.Goals as goal

pub returns : goal.returns
returns c = record_brings
