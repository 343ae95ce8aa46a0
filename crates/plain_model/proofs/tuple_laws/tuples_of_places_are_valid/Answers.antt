use Rattle.plain_model.proofs.TupleAt.{tuple_at_valid}
use Rattle.plain_model.proofs.tuple_laws.tuples_of_places_are_valid.Goals as goal

pub returns : goal.returns
returns c = tuple_at_valid
