use Rattle.line_runs.proofs.Laws.{one_value}
use Rattle.line_runs.proofs.learn_lines_have_one_value.Goals as goal

pub returns : goal.returns
returns c = one_value
