use Rattle.line_rules.proofs.Following.{in_order}
use Rattle.line_rules.proofs.laws.deliveries_follow_one_order.Goals as goal

pub returns : goal.returns
returns c = λ config valid node before h. in_order config valid node before h
