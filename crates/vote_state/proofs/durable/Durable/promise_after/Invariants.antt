use Rattle.std.proofs.Common.{◌≡◌, drop}
use Rattle.vote_state.specs.State.{promise_at, promise_after}
use Rattle.vote_state.proofs.durable.Durable.promise_after.Given as goal

-- what is left to make, after what was made
abbrev pub invariant-loop-change : goal.invariant-loop-change
invariant-loop-change l = promise_after l.ring (drop l.change-index l.changes) l.promise ≡ promise_after l.ring l.changes (promise_at l.self l.ring)
