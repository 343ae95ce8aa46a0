use Rattle.mrp_types.proofs.TupleOrder.{not_below_past}
use Rattle.mrp_types.proofs.tuple_laws.past_leaves_the_others.Goals as goal

pub returns : goal.returns
returns c = not_below_past
