use Rattle.line_rules.proofs.Following.{answered_is_ordered, ordered_stays}
use Rattle.line_rules.proofs.laws.answered_commands_stay.Goals as goal

pub returns-clause-ordered : goal.returns-clause-ordered
returns-clause-ordered c = λ config before client seq reply a. answered_is_ordered config before client seq reply a

pub returns-clause-stays : goal.returns-clause-stays
returns-clause-stays c = ordered_stays
