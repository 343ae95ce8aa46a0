use Rattle.line_rules.proofs.Judging.{rule_decides}
use Rattle.line_rules.proofs.laws.tests_decide_rules.Goals as goal

pub returns : goal.returns
returns c = λ config valid name before line. rule_decides config valid name before line
