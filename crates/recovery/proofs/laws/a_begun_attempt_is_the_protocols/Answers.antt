use Rattle.recovery.proofs.Ties.{begun_is}
use Rattle.recovery.proofs.laws.a_begun_attempt_is_the_protocols.Goals as goal

pub returns : goal.returns
returns c = begun_is
