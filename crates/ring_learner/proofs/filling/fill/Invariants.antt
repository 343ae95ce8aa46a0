use Rattle.std.proofs.Common.{◌-◌, ◌^◌, ◌≤◌}
use Rattle.protocol.specs.Learner.{first_of}
use Rattle.ring_learner.specs.Filled.{Fills}
use Rattle.ring_learner.proofs.filling.fill.Given as goal

abbrev pub invariant-loop-at : goal.invariant-loop-at
invariant-loop-at l = record { begun : l.lo ≤ l.at; filled : Fills first_of l.value l.lo l.at l.hi l.initial.held l.held }

abbrev pub decreases-loop-at : goal.decreases-loop-at
decreases-loop-at l = 2 ^ 64 - l.at
