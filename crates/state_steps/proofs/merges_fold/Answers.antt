use Rattle.state_steps.proofs.Merging.{merged}
use Rattle.state_steps.proofs.merges_fold.Goals as goal

pub returns : goal.returns
returns c = merged
