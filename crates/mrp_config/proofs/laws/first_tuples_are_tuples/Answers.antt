use Rattle.mrp_config.proofs.FirstTuples.{first_is_tuple}
use Rattle.mrp_config.proofs.laws.first_tuples_are_tuples.Goals as goal

pub returns : goal.returns
returns c = first_is_tuple
