use Rattle.disk_states.proofs.Working.{compact_brings}
use Rattle.disk_states.proofs.a_compaction_keeps_the_state.Goals as goal

pub returns : goal.returns
returns c = compact_brings
