use Rattle.std.proofs.Common.{refl}
use Rattle.command_codec.specs.Fields.{u64_bytes}
use Rattle.command_codec.specs.Reader.{bytes_at, number_at, within}
use Rattle.frames.specs.Grammar.{tuple_at}
use Rattle.gate_area.specs.Standing.{generation_of}
use Rattle.checkpoint.specs.Checkpoints.{checkpoint_at}
use Rattle.checkpoint.proofs.rows.parts.Goals as goal

pub returns-clause-all : goal.returns-clause-all
unfolding u64_bytes bytes_at number_at within tuple_at generation_of checkpoint_at
returns-clause-all c = refl

pub returns-clause-rest : goal.returns-clause-rest
unfolding u64_bytes bytes_at number_at within tuple_at generation_of checkpoint_at
returns-clause-rest c = refl

pub returns-clause-none : goal.returns-clause-none
unfolding u64_bytes bytes_at number_at within tuple_at generation_of checkpoint_at
returns-clause-none c = refl

pub returns-clause-gone : goal.returns-clause-gone
unfolding u64_bytes bytes_at number_at within tuple_at generation_of checkpoint_at
returns-clause-gone c = refl

pub returns-clause-later : goal.returns-clause-later
unfolding u64_bytes bytes_at number_at within tuple_at generation_of checkpoint_at
returns-clause-later c = refl

pub returns-clause-fresh : goal.returns-clause-fresh
unfolding u64_bytes bytes_at number_at within tuple_at generation_of checkpoint_at
returns-clause-fresh c = refl

pub returns-clause-others : goal.returns-clause-others
unfolding u64_bytes bytes_at number_at within tuple_at generation_of checkpoint_at
returns-clause-others c = refl
