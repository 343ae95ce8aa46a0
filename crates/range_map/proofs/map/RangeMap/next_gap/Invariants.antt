use Rattle.std.proofs.Common.{ℕ, ◌-◌, ◌^◌, ◌<◌, ◌≤◌}
use Rattle.std.specs.Prelude.{IsSome}
use Rattle.range_map.specs.Runs.{held}
use Rattle.range_map.proofs.map.RangeMap.next_gap.Given as goal

abbrev pub invariant-loop-run : goal.invariant-loop-run
invariant-loop-run g l = record {
  from_there : l.from ≤ l.gap;
  held_before : (i : ℕ) → l.from ≤ i → i < l.gap → IsSome (held i l.self-inside.runs.entries);
}

abbrev pub decreases-loop-run : goal.decreases-loop-run
decreases-loop-run g l = 2 ^ 40 - l.gap
