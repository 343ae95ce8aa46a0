use Rattle.std.proofs.Common.{arith}
use Rattle.dlog_service.proofs.CallLaws.{added_full, added_some, added_fits}
use Rattle.dlog_service.proofs.dlog.DLog.added.Goals as goal

pub returns-then-is_one_full : goal.returns-then-is_one_full
returns-then-is_one_full c =
    added_full _ _ c.args.self.now c.args.value.now c.args.named.now c.is_one_full.result c.deref.ensures.value c.self.view_is c.self.invariant.0 c.is_one_full.ensures c.if-is_one_full.true

pub overflow_mul-result : goal.overflow_mul-result
overflow_mul-result c =
    let fits = added_fits _ _ c.args.value.now c.args.named.now c.count_named.result c.deref-2.ensures.value c.self.invariant.0 c.requires c.count_named.ensures in
    omega (arith, fits)

pub returns : goal.returns
returns c =
    added_some _ _ _ c.args.self.now c.args.value.now c.args.named.now c.is_one_full.result c.count_named.result c.deref.ensures.value c.deref-2.ensures.value c.self.view_is c.self.invariant.0 c.is_one_full.ensures
    c.if-is_one_full.false c.count_named.ensures
