use Rattle.recovery.proofs.Ties.{heard_is}
use Rattle.recovery.proofs.laws.an_answer_is_the_protocols.Goals as goal

pub returns : goal.returns
returns c = heard_is
