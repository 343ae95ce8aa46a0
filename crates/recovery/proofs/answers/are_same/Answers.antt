use Rattle.std.proofs.Common.{sym}
use Rattle.recovery.proofs.Comparing.{differ}
use Rattle.recovery.proofs.answers.are_same.Goals as goal

pub returns-then-a-b : goal.returns-then-a-b
returns-then-a-b c = sym (differ c.args.a.now c.args.b.now c.if-a-b.true)
