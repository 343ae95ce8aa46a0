use Rattle.ring_learner.proofs.FilledLemmas.{cut_learned}
use Rattle.ring_learner.proofs.learner.RingLearner.drop_below.Goals as goal

pub invariant_of-self : goal.invariant_of-self
invariant_of-self c = rw c.cut_below.ensures.entries (cut_learned c.args.i c.self.inside.held c.self.invariant)
