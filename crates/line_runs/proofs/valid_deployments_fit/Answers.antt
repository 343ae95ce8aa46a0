use Rattle.line_runs.proofs.Fitting.{valid_fits}
use Rattle.line_runs.proofs.valid_deployments_fit.Goals as goal

pub returns : goal.returns
returns c = valid_fits
