use Rattle.std.proofs.Common.{refl}
use Rattle.plain_model.proofs.rows.which_are_valid.Goals as goal

pub returns : goal.returns
returns c = refl
