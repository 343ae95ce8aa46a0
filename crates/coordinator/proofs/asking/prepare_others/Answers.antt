use Rattle.frames.specs.declared.body.Body.TheVariants.{Prepare}
use Rattle.coordinator.proofs.OthersAsked.{all_asked}
use Rattle.coordinator.proofs.asking.prepare_others.Goals as goal

pub returns : goal.returns
returns c = λ ring link is.
    all_asked ring (Prepare ring.id c.args.ballot c.args.lo) c.loop-node.node-index c.items-node-items.result.now c.args.view.now.acceptors c.loop-node.out c.args.out.now c.items-node-items.ensures.nodes is.acceptors
    c.loop-node-test.false (c.loop-node.invariant ring link is)
