use Rattle.std.proofs.Common.{arith, ◌∙◌, sym}
use Rattle.recovery.proofs.Comparing.{at_end}
use Rattle.recovery.proofs.answers.is_one_after.Goals as goal

pub returns : goal.returns
returns c = sym (at_end c.loop-i.i c.args.a.now c.args.b.now (omega (arith, c.loop-i-test.false, c.min-i-end.ensures))) ∙ c.loop-i.invariant
