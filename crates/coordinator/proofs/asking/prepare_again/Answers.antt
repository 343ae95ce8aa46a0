use Rattle.coordinator.proofs.OthersAsked.{all_asked_again}
use Rattle.coordinator.proofs.asking.prepare_again.Goals as goal

pub returns-in_default : goal.returns-in_default
returns-in_default c = λ ring link is.
    all_asked_again ring c.args.ballot c.loop-index.index c.args.view.now.acceptors c.args.covered.now c.loop-index.out c.args.out.now is.acceptors (c.in_default.ensures.lookup.3) (c.loop-index.invariant ring link is)
