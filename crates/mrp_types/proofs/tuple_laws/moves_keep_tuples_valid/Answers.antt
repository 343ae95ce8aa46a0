use Rattle.mrp_types.proofs.TupleOrder.{past_many_valid}
use Rattle.mrp_types.proofs.tuple_laws.moves_keep_tuples_valid.Goals as goal

pub returns : goal.returns
returns c = past_many_valid
