use Rattle.std.proofs.Common.{◌≡◌, drop}
use Rattle.vote_state.specs.State.{trim_at, trim_after}
use Rattle.vote_state.proofs.durable.Durable.trim_after.Given as goal

-- what is left to make, after what was made
abbrev pub invariant-loop-change : goal.invariant-loop-change
invariant-loop-change l = trim_after l.ring (drop l.change-index l.changes) l.trim ≡ trim_after l.ring l.changes (trim_at l.self l.ring)
