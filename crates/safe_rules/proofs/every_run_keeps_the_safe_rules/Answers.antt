use Rattle.safe_rules.proofs.Rules.{all_rules}
use Rattle.safe_rules.proofs.every_run_keeps_the_safe_rules.Goals as goal

pub returns : goal.returns
returns c = all_rules
