use Rattle.mrp_types.proofs.TupleMoves.{reached}
use Rattle.mrp_types.proofs.tuple_laws.valid_tuples_are_reached.Goals as goal

pub returns : goal.returns
returns c = reached
