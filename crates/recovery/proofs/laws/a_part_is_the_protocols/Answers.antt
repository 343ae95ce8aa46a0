use Rattle.recovery.proofs.Ties.{parted_is}
use Rattle.recovery.proofs.laws.a_part_is_the_protocols.Goals as goal

pub returns : goal.returns
returns c = parted_is
