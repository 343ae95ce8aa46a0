use Rattle.recovery_lines.proofs.Trimmed.{covered_reached, trims_reached}
use Rattle.recovery_lines.proofs.choices_pass_trims.Goals as goal

pub returns-clause-lines : goal.returns-clause-lines
returns-clause-lines c = trims_reached

pub returns-clause-covered : goal.returns-clause-covered
returns-clause-covered c = covered_reached
