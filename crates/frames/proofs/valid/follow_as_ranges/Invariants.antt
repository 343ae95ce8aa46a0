use Rattle.std.proofs.Common.{drop}
use Rattle.frames.proofs.Walks.{RangesSoFar}
use Rattle.frames.proofs.valid.follow_as_ranges.Given as goal

-- what is left to judge
abbrev pub invariant-loop-decided : goal.invariant-loop-decided
invariant-loop-decided l = RangesSoFar l.before (drop l.decided-index l.ranges) l.ranges
