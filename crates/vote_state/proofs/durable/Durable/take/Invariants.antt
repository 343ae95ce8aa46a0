use Rattle.std.proofs.Common.{◌≡◌, drop}
use Rattle.vote_state.specs.State.{taken}
use Rattle.vote_state.proofs.durable.Durable.take.Given as goal

-- what is left to make, after what was made
abbrev pub invariant-loop-change : goal.invariant-loop-change
invariant-loop-change l = taken (drop l.change-index l.changes) l.self ≡ taken l.changes l.initial.self
