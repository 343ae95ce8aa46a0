use Rattle.dlog_service.proofs.CallLaws.{size_is}
use Rattle.dlog_service.proofs.dlog.DLogService.size.Goals as goal

pub returns : goal.returns
returns c = size_is _ _ c.self.inside.size c.self.view_is c.self.invariant.1
