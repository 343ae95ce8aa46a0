use Rattle.std.proofs.Common.{◌≡◌, ◌++◌, drop}
use Rattle.ring_link.specs.Silence.{Link}
use Rattle.protocol.specs.Parts.{Ring}
use Rattle.protocol.specs.Leading.{prepares_again}
use Rattle.ring_view.specs.Views.{IsViewOf}
use Rattle.coordinator.proofs.asking.prepare_again.Given as goal

-- who was asked again, and who is still to be asked
abbrev pub invariant-loop-index : goal.invariant-loop-index
invariant-loop-index l = (ring : Ring) (link : Link) → IsViewOf l.view ring link
    → l.out ++ prepares_again ring l.ballot (drop l.index l.view.acceptors) (drop l.index l.covered)
    ≡ l.initial.out ++ prepares_again ring l.ballot l.view.acceptors l.covered
