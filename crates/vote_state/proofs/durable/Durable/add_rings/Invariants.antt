use Rattle.std.proofs.Common.{◌≡◌, ◌++◌, drop}
use Rattle.vote_state.specs.State.{rings_changes}
use Rattle.vote_state.proofs.durable.Durable.add_rings.Given as goal

-- the rings that were added, and those still to add
abbrev pub invariant-loop-number : goal.invariant-loop-number
invariant-loop-number l = l.changes ++ rings_changes l.number (drop l.number l.ring-items) ≡ l.initial.changes ++ rings_changes 0 l.ring-items
