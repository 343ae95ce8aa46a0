use Rattle.mrp_types.proofs.TupleChain.{one_reaches, reaches_chain, reaches_same, before_or_same}
use Rattle.mrp_types.proofs.tuple_laws.valid_tuples_stand_in_one_order.Goals as goal

pub returns-clause-total : goal.returns-clause-total
returns-clause-total c = one_reaches

pub returns-clause-chain : goal.returns-clause-chain
returns-clause-chain c = reaches_chain

pub returns-clause-same : goal.returns-clause-same
returns-clause-same c = reaches_same

pub returns-clause-before : goal.returns-clause-before
returns-clause-before c = before_or_same
