use Rattle.std.proofs.Common.{◌≡◌, drop}
use Rattle.mrp_config.specs.Walk.{first_taken}
use Rattle.mrp_config.proofs.walk.judging.judge_taken.Given as goal

-- what is left to look through
abbrev pub invariant-loop-log : goal.invariant-loop-log
invariant-loop-log l = first_taken l.taken (drop l.log-index l.logs) ≡ first_taken l.taken l.logs
