use Rattle.std.proofs.Common.{inr, arith}
use Rattle.checkpoint_disk.proofs.Damages.{past_the_end}
use Rattle.checkpoint_disk.proofs.reading.read_from.Goals as goal

pub returns-then-len-from : goal.returns-then-len-from
returns-then-len-from c = inr (past_the_end c.args.from c.args.bytes.items (omega (arith, c.len.ensures, c.if-len-from.true)))
