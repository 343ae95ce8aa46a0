use Rattle.step_valid.proofs.Ending.{opened_valid}
use Rattle.step_valid.proofs.an_opening_is_valid.Goals as goal

pub returns : goal.returns
returns c = opened_valid
