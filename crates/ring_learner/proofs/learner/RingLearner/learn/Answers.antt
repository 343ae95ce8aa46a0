use Rattle.std.proofs.Common.{◌≡◌, max, true, subst}
use Rattle.mrp_types.specs.declared.voted.Decided.{Decided}
use Rattle.protocol.specs.Parts.{Learner}
use Rattle.protocol.specs.Learner.{is_held, with_range_learned}
use Rattle.ring_learner.proofs.FilledLemmas.{no_change, met_learned}
use Rattle.ring_learner.proofs.learner.RingLearner.learn.Goals as goal

pub returns-then-holds-clause-learner : goal.returns-then-holds-clause-learner
returns-then-holds-clause-learner c =
    let range : Decided = record { lo = c.args.lo; hi = c.args.hi; value = c.args.value.now } in
    let learner : Learner = record { base = c.self.inside.base; held = c.self.inside.held } in
    let all : is_held (max c.args.lo c.self.inside.base) c.args.hi c.self.inside.held ≡ true = cc in
    subst (λ (l : Learner). l ≡ with_range_learned range l) c.self.view_is (no_change range learner c.self.invariant.ordered all)

pub invariant_of-self-in_default : goal.invariant_of-self-in_default
invariant_of-self-in_default c = rw c.in_default.ensures (met_learned c.max-from.result c.args.hi c.args.value.now c.self.inside.held c.requires.end c.requires.value c.self.invariant)
