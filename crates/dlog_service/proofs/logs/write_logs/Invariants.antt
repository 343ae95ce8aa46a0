use Rattle.std.proofs.Common.{◌≡◌, ◌++◌, drop}
use Rattle.std.specs.List.{flat_map}
use Rattle.plain_model.specs.StateBytes.{log_bytes}
use Rattle.dlog_service.proofs.logs.write_logs.Given as goal

-- what was written, and what is left to write
abbrev pub invariant-loop-log : goal.invariant-loop-log
invariant-loop-log l = l.to ++ flat_map log_bytes (drop l.log-index l.logs) ≡ l.fn.to ++ flat_map log_bytes l.logs
