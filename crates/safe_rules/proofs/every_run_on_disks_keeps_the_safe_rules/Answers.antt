use Rattle.safe_rules.proofs.Rules.{disks_safe}
use Rattle.safe_rules.proofs.every_run_on_disks_keeps_the_safe_rules.Goals as goal

pub returns : goal.returns
returns c = disks_safe
