use Rattle.std.proofs.Common.{arith}
use Rattle.command_codec.proofs.Sizes.{length-entry_bytes}
use Rattle.coordinator.proofs.queue.entry_size.Goals as goal

pub overflow_add-result : goal.overflow_add-result
overflow_add-result c = let short = c.requires.short in omega (arith, c.len.ensures)

pub returns : goal.returns
returns c = let size = length-entry_bytes c.args.entry.now in omega (arith, c.len.ensures)
