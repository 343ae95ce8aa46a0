use Rattle.state_runs.proofs.Laws.{line_in_turn, all_paid}
use Rattle.state_runs.proofs.Named.{line_rule}
use Rattle.state_runs.proofs.replies_are_the_folds.Goals as goal

pub returns-clause-rule : goal.returns-clause-rule
returns-clause-rule c = line_rule

pub returns-clause-turn : goal.returns-clause-turn
returns-clause-turn c = line_in_turn

pub returns-clause-paid : goal.returns-clause-paid
returns-clause-paid c = all_paid
