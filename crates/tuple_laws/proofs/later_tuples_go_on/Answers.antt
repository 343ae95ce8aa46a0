use Rattle.tuple_laws.proofs.Below.{later-reached, later-below}
use Rattle.tuple_laws.proofs.later_tuples_go_on.Goals as goal

pub returns-clause-reached : goal.returns-clause-reached
returns-clause-reached c = later-reached

pub returns-clause-below : goal.returns-clause-below
returns-clause-below c = later-below
