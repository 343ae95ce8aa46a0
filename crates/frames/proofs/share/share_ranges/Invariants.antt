use Rattle.std.proofs.Common.{◌≡◌, ◌++◌, drop}
use Rattle.frames.proofs.share.share_ranges.Given as goal

-- the ranges so far, and those still to share
abbrev pub invariant-loop-decided : goal.invariant-loop-decided
invariant-loop-decided l = l.copy ++ drop l.decided-index l.ranges ≡ l.ranges
