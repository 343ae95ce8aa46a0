-- Each history of a run stands for a sound world of the machine, and so keeps the rule.
use Rattle.ring_runs.proofs.Whole.{starts}
use Rattle.ring_runs.proofs.start.Goals as goal

pub returns : goal.returns
returns c = starts
