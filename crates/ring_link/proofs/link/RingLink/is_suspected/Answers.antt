use Rattle.std.proofs.Common.{◌≡◌, ◌∙◌, ap, arith, ◌<◌}
use Rattle.ring_link.specs.Silence.{Link, is_silent}
use Rattle.ring_link.proofs.SilenceLemmas.{is_silent-link_after}
use Rattle.ring_link.proofs.link.RingLink.is_suspected.Goals as goal

pub returns-clause-counted : goal.returns-clause-counted
returns-clause-counted c suspect events was =
    let fits : c.args.node.0 < 256 = omega arith in
    let same : c.self.inside.suspect ≡ suspect = ap (λ (l : Link). l.suspect) (c.self.view_is ∙ was) in
    let small : suspect < 65536 = omega arith in
    let step = ap (λ (l : Link). is_silent l c.args.node.0) was ∙ is_silent-link_after suspect c.args.node.0 events fits small in
    rw c.from.ensures (rw (← c.self.view_is) at step)
