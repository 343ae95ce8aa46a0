use Rattle.std.proofs.Common.{◌≡◌, ◌++◌, drop}
use Rattle.std.specs.List.{flat_map}
use Rattle.frames.specs.Spelling.{next_bytes, tuple_bytes}
use Rattle.checkpoint_disk.proofs.saving.put_tuple.Given as goal

-- what was written, and what is left to write
abbrev pub invariant-loop-next : goal.invariant-loop-next
invariant-loop-next l = l.out ++ flat_map next_bytes (drop l.next-index l.pairs) ≡ l.fn.out ++ tuple_bytes l.pairs
