use Rattle.std.proofs.Common.{refl}
use Rattle.command_codec.specs.Fields.{u16_bytes}
use Rattle.plain_model.proofs.rows.a_swap_written.Goals as goal

pub returns : goal.returns
unfolding u16_bytes
returns c = refl
