use Rattle.std.proofs.Common.{rules}
use Rattle.ring_learner.proofs.FilledLemmas.{all_passed, one_bare}
use Rattle.ring_learner.proofs.filling.holds.Goals as goal

pub returns-in_default : goal.returns-in_default
returns-in_default c = one_bare c.args.lo c.loop-at.at c.args.hi c.args.held.now c.requires c.loop-at.invariant.begun c.loop-at-test.true (search rules)

pub returns : goal.returns
returns c = all_passed c.args.lo c.loop-at.at c.args.hi c.args.held.now c.requires c.loop-at-test.false c.loop-at.invariant.passed
