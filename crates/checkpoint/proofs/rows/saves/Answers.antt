use Rattle.std.proofs.Common.{refl}
use Rattle.command_codec.specs.Fields.{u64_bytes}
use Rattle.command_codec.specs.Reader.{bytes_at, number_at, within}
use Rattle.frames.specs.Grammar.{tuple_at}
use Rattle.gate_area.specs.Standing.{generation_of}
use Rattle.checkpoint.specs.Checkpoints.{checkpoint_at}
use Rattle.checkpoint.proofs.rows.saves.Goals as goal

pub returns-clause-first : goal.returns-clause-first
unfolding u64_bytes bytes_at number_at within tuple_at generation_of checkpoint_at
returns-clause-first c = refl

pub returns-clause-both : goal.returns-clause-both
unfolding u64_bytes bytes_at number_at within tuple_at generation_of checkpoint_at
returns-clause-both c = refl
