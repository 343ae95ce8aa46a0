use Rattle.std.proofs.Common.{refl}
use Rattle.plain_model.proofs.rows.what_is_left.Goals as goal

pub returns : goal.returns
returns c = refl
