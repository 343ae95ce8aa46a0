use Rattle.std.proofs.Common.{◌≡◌, drop}
use Rattle.vote_state.specs.State.{trim_after}
use Rattle.coordinator.proofs.coordinator.kept_from.Given as goal

-- what the changes to come tell
abbrev pub invariant-loop-change : goal.invariant-loop-change
invariant-loop-change l = trim_after l.ring (drop l.change-index l.changes) l.from ≡ trim_after l.ring l.changes 0
