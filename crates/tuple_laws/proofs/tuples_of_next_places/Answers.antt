use Rattle.tuple_laws.proofs.NextPlaces.{at-next}
use Rattle.tuple_laws.proofs.tuples_of_next_places.Goals as goal

pub returns : goal.returns
returns c = at-next
