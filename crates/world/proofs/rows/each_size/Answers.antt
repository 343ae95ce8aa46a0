use Rattle.std.proofs.Common.{refl}
use Rattle.command_codec.specs.Fields.{u16_bytes, u64_bytes}
use Rattle.world.specs.System.{trace}
use Rattle.world.proofs.rows.each_size.Goals as goal

pub returns-clause-lines : goal.returns-clause-lines
unfolding trace u16_bytes u64_bytes lib.Count.ones
returns-clause-lines c = refl

pub returns-clause-frames : goal.returns-clause-frames
unfolding trace u16_bytes u64_bytes lib.Count.ones
returns-clause-frames c = refl
