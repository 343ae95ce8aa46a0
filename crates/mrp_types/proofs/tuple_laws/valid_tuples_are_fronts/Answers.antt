use Rattle.mrp_types.proofs.TupleOrder.{valid_is_front, front_is_valid}
use Rattle.mrp_types.proofs.tuple_laws.valid_tuples_are_fronts.Goals as goal

pub returns : goal.returns
returns c = λ m tuple. (valid_is_front m tuple, front_is_valid m tuple)
