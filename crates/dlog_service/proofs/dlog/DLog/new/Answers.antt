use Rattle.std.proofs.Common.{arith}
use Rattle.dlog_service.proofs.CallLaws.{new_kept, few_new}
use Rattle.dlog_service.proofs.dlog.DLog.new.Goals as goal

pub overflow_mul-size : goal.overflow_mul-size
overflow_mul-size c = omega (arith, few_new c.args.logs.now c.requires)

pub overflow_add-size : goal.overflow_add-size
overflow_add-size c = omega (arith, few_new c.args.logs.now c.requires)

pub invariant_of-result : goal.invariant_of-result
invariant_of-result c = new_kept c.args.logs.now _ c.requires c.in_ok-logs.ensures
