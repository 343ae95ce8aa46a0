use Rattle.std.proofs.Common.{arith, ap, ◌∙◌, List}
use Rattle.plain_model.specs.Replicas.{LogState}
use Rattle.dlog_service.specs.Logs.{logs_size}
use Rattle.dlog_service.proofs.CallLaws.{few_new}
use Rattle.dlog_service.proofs.ReadLaws.{read_are}
use Rattle.dlog_service.proofs.dlog.DLog.read_from.Goals as goal

pub overflow_cast-count : goal.overflow_cast-count
overflow_cast-count c = omega (arith, few_new c.args.logs.now c.requires)

pub invariant_of-result : goal.invariant_of-result
invariant_of-result c = (read_are c.args.logs.now _ c.requires c.in_ok-logs.ensures.logs, c.in_ok-size.ensures ∙ ap (λ (l : List LogState). logs_size l) c.deref.ensures.value)
