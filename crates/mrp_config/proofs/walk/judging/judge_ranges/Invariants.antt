use Rattle.std.proofs.Common.{◌≡◌, drop, []}
use Rattle.mrp_config.specs.Walk.{ranges_follow}
use Rattle.mrp_config.proofs.walk.judging.judge_ranges.Given as goal

-- what is left to look through
abbrev pub invariant-loop-index : goal.invariant-loop-index
invariant-loop-index l = ranges_follow l.start (drop l.index l.partitions) ≡ ranges_follow [] l.partitions
