use Rattle.protocol.specs.Learner.{first_of}
use Rattle.ring_learner.proofs.FilledLemmas.{filled}
use Rattle.ring_learner.proofs.filling.fill.Goals as goal

pub returns : goal.returns
returns c = filled first_of c.args.value.now c.args.lo c.loop-at.at c.args.hi c.args.held.now c.loop-at.held c.loop-at-test.false c.requires.ordered c.loop-at.invariant.filled
