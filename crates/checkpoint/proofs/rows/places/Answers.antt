use Rattle.std.proofs.Common.{refl}
use Rattle.command_codec.specs.Fields.{u64_bytes}
use Rattle.command_codec.specs.Reader.{bytes_at, number_at, within}
use Rattle.frames.specs.Grammar.{tuple_at}
use Rattle.gate_area.specs.Standing.{generation_of}
use Rattle.checkpoint.specs.Checkpoints.{checkpoint_at}
use Rattle.checkpoint.proofs.rows.places.Goals as goal

pub returns-clause-none : goal.returns-clause-none
unfolding u64_bytes bytes_at number_at within tuple_at generation_of checkpoint_at
returns-clause-none c = refl

pub returns-clause-newest : goal.returns-clause-newest
unfolding u64_bytes bytes_at number_at within tuple_at generation_of checkpoint_at
returns-clause-newest c = refl

pub returns-clause-older : goal.returns-clause-older
unfolding u64_bytes bytes_at number_at within tuple_at generation_of checkpoint_at
returns-clause-older c = refl
