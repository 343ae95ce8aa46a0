use Rattle.std.proofs.Common.{◌∙◌, ap}
use Rattle.protocol.specs.Parts.{Learner}
use Rattle.protocol.specs.Learner.{first_gap}
use Rattle.ring_learner.proofs.FilledLemmas.{one_gap}
use Rattle.ring_learner.proofs.learner.RingLearner.first_gap.Goals as goal

pub returns-clause-gap : goal.returns-clause-gap
returns-clause-gap c = one_gap c.args.from c.next_gap.result c.self.inside.held c.self.invariant.ordered c.next_gap.ensures ∙ ap (λ (l : Learner). first_gap c.args.from l.held) c.self.view_is
