use Rattle.safe_rules.proofs.Rules.{restores}
use Rattle.safe_rules.proofs.restore.Goals as goal

pub returns : goal.returns
returns c = restores
