use Rattle.recovery_lines.proofs.Saving.{saved_right}
use Rattle.recovery_lines.proofs.saves_are_right.Goals as goal

pub returns : goal.returns
returns c = saved_right
