use Rattle.dlog_service.proofs.CallLaws.{append_growth, multi_growth, rest_growth, of_view}
use Rattle.dlog_service.proofs.dlog.DLogService.growth.Goals as goal

pub returns-in-Append : goal.returns-in-Append
returns-in-Append c = append_growth c.args.command.now c.in-Append.log c.in-Append.value c.bytes.result.now c.args.self.now _ c.in-Append.is c.bytes.ensures c.added.ensures

pub returns-in-Multi : goal.returns-in-Multi
returns-in-Multi c =
    multi_growth c.args.command.now c.in-Multi.logs c.items.result.now c.in-Multi.value c.bytes-in-Multi.result.now c.args.self.now _ c.in-Multi.is c.items.ensures c.bytes-in-Multi.ensures c.added-in-Multi.ensures

pub returns-in_default : goal.returns-in_default
returns-in_default c = rest_growth c.args.command.now c.args.self.now (of_view _ _ c.self.view_is c.self.invariant.0) c.in_default.not-Append c.in_default.not-Multi
