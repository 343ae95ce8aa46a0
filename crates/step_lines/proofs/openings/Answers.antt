use Rattle.step_lines.proofs.Opening.{opened_left, opened_lines}
use Rattle.step_lines.proofs.openings.Goals as goal

pub returns-clause-left : goal.returns-clause-left
returns-clause-left c = opened_left

pub returns-clause-right : goal.returns-clause-right
returns-clause-right c = λ config fit lines id journal checkpoints epoch same kept right known covered. opened_lines config fit lines id journal checkpoints epoch same kept right known covered
