use Rattle.plain_model.proofs.TupleAt.{below_is_before}
use Rattle.plain_model.proofs.tuple_laws.what_is_below_comes_before.Goals as goal

pub returns : goal.returns
returns c = below_is_before
