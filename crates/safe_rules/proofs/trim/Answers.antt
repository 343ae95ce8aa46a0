use Rattle.safe_rules.proofs.Rules.{trims}
use Rattle.safe_rules.proofs.trim.Goals as goal

pub returns : goal.returns
returns c = trims
