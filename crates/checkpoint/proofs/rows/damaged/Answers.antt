use Rattle.std.proofs.Common.{refl}
use Rattle.command_codec.specs.Fields.{u64_bytes}
use Rattle.command_codec.specs.Reader.{bytes_at, number_at, within}
use Rattle.frames.specs.Grammar.{tuple_at}
use Rattle.gate_area.specs.Standing.{generation_of}
use Rattle.checkpoint.specs.Checkpoints.{checkpoint_at}
use Rattle.checkpoint.proofs.rows.damaged.Goals as goal

pub returns-clause-ring : goal.returns-clause-ring
unfolding u64_bytes bytes_at number_at within tuple_at generation_of checkpoint_at
returns-clause-ring c = refl

pub returns-clause-missing : goal.returns-clause-missing
unfolding u64_bytes bytes_at number_at within tuple_at generation_of checkpoint_at
returns-clause-missing c = refl

pub returns-clause-left : goal.returns-clause-left
unfolding u64_bytes bytes_at number_at within tuple_at generation_of checkpoint_at
returns-clause-left c = refl

pub returns-clause-short : goal.returns-clause-short
unfolding u64_bytes bytes_at number_at within tuple_at generation_of checkpoint_at
returns-clause-short c = refl

pub returns-clause-format : goal.returns-clause-format
unfolding u64_bytes bytes_at number_at within tuple_at generation_of checkpoint_at
returns-clause-format c = refl

pub returns-clause-older : goal.returns-clause-older
unfolding u64_bytes bytes_at number_at within tuple_at generation_of checkpoint_at
returns-clause-older c = refl
