use Rattle.line_rules.proofs.Judging.{front_faithful}
use Rattle.line_rules.proofs.laws.fronts_are_faithful.Goals as goal

pub returns : goal.returns
returns c = λ config front rest h. front_faithful config front rest h
