use Rattle.std.proofs.Common.{◌≡◌, ◌+◌, drop}
use Rattle.dlog_service.specs.Logs.{values_size}
use Rattle.dlog_service.proofs.log.add_sizes.Given as goal

-- what was counted, and what is left to count
abbrev pub invariant-loop-value : goal.invariant-loop-value
invariant-loop-value l = l.sum + values_size (drop l.value-index l.values) ≡ l.so_far + values_size l.values
