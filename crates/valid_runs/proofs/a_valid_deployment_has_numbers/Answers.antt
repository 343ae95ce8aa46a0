use Rattle.valid_runs.proofs.Running.{numbered}
use Rattle.valid_runs.proofs.a_valid_deployment_has_numbers.Goals as goal

pub returns : goal.returns
returns c = numbered
