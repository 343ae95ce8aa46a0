use Rattle.std.proofs.Common.{◌≡◌, ◌+◌, drop}
use Rattle.std.specs.List.{sum_by}
use Rattle.plain_model.specs.Replicas.{log_size}
use Rattle.dlog_service.specs.Logs.{logs_size}
use Rattle.dlog_service.proofs.logs.size_of.Given as goal

-- what was counted, and what is left to count
abbrev pub invariant-loop-log : goal.invariant-loop-log
invariant-loop-log l = l.sum + sum_by log_size (drop l.log-index l.logs) ≡ logs_size l.logs
