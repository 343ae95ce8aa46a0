use Rattle.recovery.proofs.Ties.{gone_is}
use Rattle.recovery.proofs.laws.a_gone_checkpoint_is_the_protocols.Goals as goal

pub returns : goal.returns
returns c = gone_is
