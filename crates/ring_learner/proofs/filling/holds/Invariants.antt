use Rattle.std.proofs.Common.{ℕ, ◌-◌, ◌^◌, ◌<◌, ◌≤◌}
use Rattle.std.specs.Prelude.{IsSome}
use Rattle.range_map.specs.Entries.{value_at}
use Rattle.ring_learner.proofs.filling.holds.Given as goal

-- all that was passed is held
abbrev pub invariant-loop-at : goal.invariant-loop-at
invariant-loop-at l = record { begun : l.lo ≤ l.at; passed : (i : ℕ) → l.lo ≤ i → i < l.at → IsSome (value_at i l.held) }

abbrev pub decreases-loop-at : goal.decreases-loop-at
decreases-loop-at l = 2 ^ 64 - l.at
