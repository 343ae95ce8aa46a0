use Rattle.std.proofs.Common.{◌∙◌, ap}
use Rattle.ring_link.specs.Silence.{with_tick}
use Rattle.ring_link.proofs.SilenceLemmas.{link_after-tick}
use Rattle.ring_link.proofs.link.RingLink.tick.Goals as goal

pub returns-clause-counted : goal.returns-clause-counted
returns-clause-counted c suspect events was =
    let step = ap with_tick was ∙ link_after-tick suspect events in
    rw c.grow.ensures (rw (← c.self.view_is) at step)
