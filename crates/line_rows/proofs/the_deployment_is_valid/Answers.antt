use Rattle.line_rows.proofs.Deployment.{valid}
use Rattle.line_rows.proofs.the_deployment_is_valid.Goals as goal

pub returns : goal.returns
returns c = valid
