use Rattle.own_order.proofs.Whole.{keeps_order}
use Rattle.own_order.proofs.a_node_keeps_its_own_order.Goals as goal

pub returns : goal.returns
returns c = keeps_order
