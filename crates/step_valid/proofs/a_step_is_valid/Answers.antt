use Rattle.step_valid.proofs.Ending.{step_valid}
use Rattle.step_valid.proofs.a_step_is_valid.Goals as goal

pub returns : goal.returns
returns c = step_valid
