use Rattle.plain_model.proofs.TupleAt.{before_is_below}
use Rattle.plain_model.proofs.tuple_laws.what_comes_before_is_below.Goals as goal

pub returns : goal.returns
returns c = before_is_below
