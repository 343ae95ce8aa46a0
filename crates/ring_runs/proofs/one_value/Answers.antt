-- Each history of a run stands for a sound world of the machine, and so keeps the rule.
use Rattle.ring_runs.proofs.Whole.{one_value}
use Rattle.ring_runs.proofs.one_value.Goals as goal

pub returns : goal.returns
returns c = one_value
