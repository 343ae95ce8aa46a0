use Rattle.std.proofs.Common.{sym}
use Rattle.checkpoint_disk.proofs.Damages.{other_lengths}
use Rattle.checkpoint_disk.proofs.tuples.is_same.Goals as goal

pub returns-then-own-others : goal.returns-then-own-others
returns-then-own-others c = sym (other_lengths c.args.own.now c.args.others.now c.if-own-others.true)
