use Rattle.dlog_service.proofs.CallLaws.{append_kept}
use Rattle.dlog_service.proofs.dlog.DLog.append.Goals as goal

pub invariant_of-self : goal.invariant_of-self
invariant_of-self c =
    append_kept _ c.args.self.now _ c.args.value.now c.args.named.now c.in-Some.size c.self.inside.size c.added-added.result c.self.view_is c.self.invariant.0 c.self.invariant.1 c.requires.short c.requires.room
    c.added-added.ensures c.in-Some.ensures.1 c.in-Ok.ensures.logs
