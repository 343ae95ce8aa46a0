use Rattle.std.proofs.Common.{◌∙◌, ap, arith, ◌<◌}
use Rattle.ring_link.specs.Silence.{with_heard}
use Rattle.ring_link.proofs.SilenceLemmas.{link_after-heard}
use Rattle.ring_link.proofs.link.RingLink.heard.Goals as goal

pub returns-clause-counted : goal.returns-clause-counted
returns-clause-counted c suspect events was =
    let fits : c.args.node.0 < 256 = omega arith in
    let step = ap (with_heard c.args.node.0) was ∙ link_after-heard suspect c.args.node.0 events fits in
    rw c.from.ensures (rw (← c.self.view_is) at step)
