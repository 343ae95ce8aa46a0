use Rattle.std.proofs.Common.{◌≡◌, drop, []}
use Rattle.mrp_config.specs.Walk.{logs_once}
use Rattle.mrp_config.proofs.walk.judging.judge_logs.Given as goal

-- what is left to look through
abbrev pub invariant-loop-p : goal.invariant-loop-p
invariant-loop-p l = logs_once l.taken.items (drop l.p-index l.partitions) ≡ logs_once [] l.partitions
