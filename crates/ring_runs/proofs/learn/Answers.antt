-- Each history of a run stands for a sound world of the machine, and so keeps the rule.
use Rattle.ring_runs.proofs.Whole.{learns}
use Rattle.ring_runs.proofs.learn.Goals as goal

pub returns : goal.returns
returns c = learns
