use Rattle.mrp_types.proofs.TupleOrder.{next_is_one}
use Rattle.mrp_types.proofs.tuple_laws.the_next_place_is_an_entry.Goals as goal

pub returns : goal.returns
returns c = next_is_one
