use Rattle.std.proofs.Common.{◌≡◌, drop}
use Rattle.schedule.specs.Spelling.{are_held}
use Rattle.schedule.proofs.routing.are_held.Given as goal

-- what is left to look through
abbrev pub invariant-loop-log : goal.invariant-loop-log
invariant-loop-log l = are_held l.partitions (drop l.log-index l.logs) ≡ are_held l.partitions l.logs
