use Rattle.tuple_laws.proofs.NextPlaces.{next-at}
use Rattle.tuple_laws.proofs.next_places_of_tuples.Goals as goal

pub returns : goal.returns
returns c = next-at
