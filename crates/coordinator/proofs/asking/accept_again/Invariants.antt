use Rattle.std.proofs.Common.{◌≡◌, ◌++◌, drop}
use Rattle.ring_link.specs.Silence.{Link}
use Rattle.protocol.specs.Parts.{Ring}
use Rattle.protocol.specs.Rings.{next_acceptor}
use Rattle.protocol.specs.Leading.{accepts_again}
use Rattle.ring_view.specs.Views.{IsViewOf}
use Rattle.coordinator.proofs.asking.accept_again.Given as goal

-- what was sent again, and what is still to be sent
abbrev pub invariant-loop-range : goal.invariant-loop-range
invariant-loop-range l = (ring : Ring) (link : Link) → IsViewOf l.view ring link
    → l.out ++ accepts_again ring (next_acceptor ring link) l.ballot l.trim (drop l.range-index l.outstanding)
    ≡ l.initial.out ++ accepts_again ring (next_acceptor ring link) l.ballot l.trim l.outstanding
