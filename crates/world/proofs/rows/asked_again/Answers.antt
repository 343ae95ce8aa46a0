use Rattle.std.proofs.Common.{refl}
use Rattle.command_codec.specs.Fields.{u16_bytes, u64_bytes}
use Rattle.world.specs.System.{trace}
use Rattle.world.proofs.rows.asked_again.Goals as goal

pub returns : goal.returns
unfolding trace u16_bytes u64_bytes lib.Count.ones
returns c = refl
