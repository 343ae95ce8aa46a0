use Rattle.std.proofs.Common.{arith}
use Rattle.dlog_service.proofs.LogsLaws.{few_logs}
use Rattle.dlog_service.proofs.dlog.DLogService.write_state.Goals as goal

pub overflow_cast-len : goal.overflow_cast-len
overflow_cast-len c = omega (arith, few_logs _ c.self.invariant.0)
