use Rattle.mrp_types.proofs.TupleOrder.{none_before_next}
use Rattle.mrp_types.proofs.tuple_laws.the_next_place_is_first.Goals as goal

pub returns : goal.returns
returns c = none_before_next
