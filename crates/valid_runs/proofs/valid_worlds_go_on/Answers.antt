use Rattle.valid_runs.proofs.Running.{happens_valid}
use Rattle.valid_runs.proofs.valid_worlds_go_on.Goals as goal

pub returns : goal.returns
returns c = happens_valid
