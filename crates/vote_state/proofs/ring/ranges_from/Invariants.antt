use Rattle.std.proofs.Common.{◌≡◌, ◌++◌, ◌-◌, ◌^◌}
use Rattle.range_map.specs.Entries.{entries_from}
use Rattle.vote_state.specs.Ranges.{ranges_of}
use Rattle.vote_state.proofs.ring.ranges_from.Given as goal

-- the ranges so far, and those still to come
abbrev pub invariant-loop-ranges : goal.invariant-loop-ranges
invariant-loop-ranges l = l.ranges ++ ranges_of (entries_from l.at l.votes) ≡ ranges_of (entries_from l.from l.votes)

abbrev pub decreases-loop-ranges : goal.decreases-loop-ranges
decreases-loop-ranges l = 2 ^ 64 - l.at
