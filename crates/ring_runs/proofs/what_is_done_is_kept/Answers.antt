-- Each history of a run stands for a sound world of the machine, and so keeps the rule.
use Rattle.ring_runs.proofs.Whole.{done}
use Rattle.ring_runs.proofs.what_is_done_is_kept.Goals as goal

pub returns : goal.returns
returns c = done
