use Rattle.protocol.proofs.NodeLemmas.{members_first, members_order, members_others, members_all}
use Rattle.protocol.proofs.laws.members_are_acceptors_and_then_replicas.Goals as goal

pub returns-clause-acceptors : goal.returns-clause-acceptors
returns-clause-acceptors c = members_first

pub returns-clause-order : goal.returns-clause-order
returns-clause-order c = members_order

pub returns-clause-others : goal.returns-clause-others
returns-clause-others c = members_others

pub returns-clause-all : goal.returns-clause-all
returns-clause-all c = members_all
