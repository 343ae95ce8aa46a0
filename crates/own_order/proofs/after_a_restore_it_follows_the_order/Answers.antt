use Rattle.own_order.proofs.Restored.{restored_follows}
use Rattle.own_order.proofs.after_a_restore_it_follows_the_order.Goals as goal

pub returns : goal.returns
returns c = restored_follows
