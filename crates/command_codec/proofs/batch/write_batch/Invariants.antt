use Rattle.std.proofs.Common.{◌≡◌, ◌++◌, drop}
use Rattle.std.specs.List.{flat_map}
use Rattle.command_codec.specs.Spelling.{entry_bytes, batch_bytes}
use Rattle.command_codec.proofs.batch.write_batch.Given as goal

-- what was written, and what is left to write
abbrev pub invariant-loop-entry : goal.invariant-loop-entry
invariant-loop-entry l = l.out ++ flat_map entry_bytes (drop l.entry-index l.entries) ≡ batch_bytes l.entries
