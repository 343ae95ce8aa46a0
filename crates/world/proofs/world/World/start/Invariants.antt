use Rattle.std.proofs.Common.{◌≡◌}
use Rattle.std.specs.Prelude.{replicate}
use Rattle.world.specs.Learner.{nothing_learned}
use Rattle.world.proofs.world.World.start.Given as goal

-- so many acceptors that learned nothing
abbrev pub invariant-loop-turn : goal.invariant-loop-turn
invariant-loop-turn l = record { learners : l.learners.items ≡ replicate l._turn nothing_learned }
