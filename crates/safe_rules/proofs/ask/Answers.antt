use Rattle.safe_rules.proofs.Asked.{asks}
use Rattle.safe_rules.proofs.ask.Goals as goal

pub returns : goal.returns
returns c = asks
