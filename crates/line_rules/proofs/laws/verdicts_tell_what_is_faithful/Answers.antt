use Rattle.line_rules.proofs.Judging.{verdict_faithful, verdict_broken}
use Rattle.line_rules.proofs.laws.verdicts_tell_what_is_faithful.Goals as goal

pub returns-clause-faithful : goal.returns-clause-faithful
returns-clause-faithful c = λ config valid lines. verdict_faithful config valid lines

pub returns-clause-broken : goal.returns-clause-broken
returns-clause-broken c = λ config valid lines number name e. verdict_broken config valid lines number name e
