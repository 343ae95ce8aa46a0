use Rattle.line_rules.proofs.Conditions.{conditions_are_the_test}
use Rattle.line_rules.proofs.laws.conditions_make_tests.Goals as goal

pub returns : goal.returns
returns c = λ name config before line. conditions_are_the_test config before name line
