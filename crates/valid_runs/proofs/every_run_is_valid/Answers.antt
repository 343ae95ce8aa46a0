use Rattle.valid_runs.proofs.Running.{runs_valid}
use Rattle.valid_runs.proofs.every_run_is_valid.Goals as goal

pub returns : goal.returns
returns c = runs_valid
