use Rattle.std.proofs.Common.{◌-◌, ◌^◌, ◌≤◌}
use Rattle.vote_state.specs.Ranges.{cast_of}
use Rattle.protocol.specs.Ballots.{higher}
use Rattle.ring_learner.specs.Filled.{Fills}
use Rattle.coordinator.proofs.reports.raise.Given as goal

abbrev pub invariant-loop-at : goal.invariant-loop-at
invariant-loop-at l = record { begun : l.lo ≤ l.at; filled : Fills higher (cast_of l.vote) l.lo l.at l.vote.hi l.initial.casts l.casts }

abbrev pub decreases-loop-at : goal.decreases-loop-at
decreases-loop-at l = 2 ^ 64 - l.at
