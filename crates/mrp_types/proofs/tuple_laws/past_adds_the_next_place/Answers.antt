use Rattle.mrp_types.proofs.TupleOrder.{below_past}
use Rattle.mrp_types.proofs.tuple_laws.past_adds_the_next_place.Goals as goal

pub returns : goal.returns
returns c = below_past
