use Rattle.safe_rules.proofs.Rules.{saves}
use Rattle.safe_rules.proofs.save.Goals as goal

pub returns : goal.returns
returns c = saves
