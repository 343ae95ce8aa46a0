use Rattle.state_steps.proofs.Whole.{step_at}
use Rattle.state_steps.proofs.Left.{step_left_at}
use Rattle.state_steps.proofs.steps_keep_states.Goals as goal

pub returns-clause-kept : goal.returns-clause-kept
returns-clause-kept c = step_at

pub returns-clause-left : goal.returns-clause-left
returns-clause-left c = step_left_at
