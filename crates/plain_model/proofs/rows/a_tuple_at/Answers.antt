use Rattle.std.proofs.Common.{refl}
use Rattle.plain_model.proofs.rows.a_tuple_at.Goals as goal

pub returns : goal.returns
returns c = refl
