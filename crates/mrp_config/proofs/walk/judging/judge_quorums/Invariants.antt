use Rattle.std.proofs.Common.{◌≡◌, drop}
use Rattle.mrp_config.specs.Walk.{quorums_meet}
use Rattle.mrp_config.proofs.walk.judging.judge_quorums.Given as goal

-- what is left to look through
abbrev pub invariant-loop-p : goal.invariant-loop-p
invariant-loop-p l = quorums_meet (drop l.p-index l.partitions) ≡ quorums_meet l.partitions
