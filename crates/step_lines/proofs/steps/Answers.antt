use Rattle.step_lines.proofs.Whole.{step_left, step_right}
use Rattle.step_lines.proofs.steps.Goals as goal

pub returns-clause-left : goal.returns-clause-left
returns-clause-left c = step_left

pub returns-clause-right : goal.returns-clause-right
returns-clause-right c = step_right
