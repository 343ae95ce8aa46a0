use Rattle.protocol.proofs.NodeLemmas.{same_times, by_id_order, by_id_increasing}
use Rattle.protocol.proofs.laws.nodes_are_put_by_id.Goals as goal

pub returns-clause-same : goal.returns-clause-same
returns-clause-same c = same_times

pub returns-clause-order : goal.returns-clause-order
returns-clause-order c = by_id_order

pub returns-clause-increasing : goal.returns-clause-increasing
returns-clause-increasing c = by_id_increasing
