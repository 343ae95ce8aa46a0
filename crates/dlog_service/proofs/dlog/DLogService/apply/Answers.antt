use Rattle.std.proofs.Common.{List, refl, sym, ap, ◌∙◌}
use Rattle.plain_model.specs.Replicas.{LogState, Effect}
use Rattle.services.specs.Parts.{Logs}
use Rattle.dlog_service.proofs.LogsLaws.{same_reply}
use Rattle.dlog_service.proofs.CallLaws.{append_made, multi_made, read_made, trim_made, append_room, multi_room, state_made, reply_made, spelled_made, unchanged_made, of_view}
use Rattle.dlog_service.proofs.dlog.DLogService.apply.Goals as goal

pub append-requires-clause-room : goal.append-requires-clause-room
append-requires-clause-room c = append_room c.args.command.now c.in-Append.log c.in-Append.value c.bytes.result.now c.args.self.now c.in-Append.is c.bytes.ensures c.requires.room

pub append-requires-in-Multi-clause-room : goal.append-requires-in-Multi-clause-room
append-requires-in-Multi-clause-room c =
    multi_room c.args.command.now c.in-Multi.logs c.items.result.now c.in-Multi.value c.bytes-in-Multi.result.now c.args.self.now c.in-Multi.is c.items.ensures c.bytes-in-Multi.ensures c.requires.room

pub returns-in-Append-clause-state : goal.returns-in-Append-clause-state
returns-in-Append-clause-state c =
    state_made c.append.result _ _ _ (append_made c.args.command.now c.in-Append.log c.in-Append.value c.bytes.result.now c.args.self.now c.in-Append.is c.bytes.ensures) c.append.ensures.state

pub returns-in-Append-clause-reply : goal.returns-in-Append-clause-reply
returns-in-Append-clause-reply c =
    reply_made c.append.result _ _ (append_made c.args.command.now c.in-Append.log c.in-Append.value c.bytes.result.now c.args.self.now c.in-Append.is c.bytes.ensures) c.append.ensures.reply

pub returns-in-Append-clause-spelled : goal.returns-in-Append-clause-spelled
returns-in-Append-clause-spelled c =
    spelled_made c.append.result c.args.command.now c.args.self.now c.requires.valid (of_view _ _ c.self.view_is c.self.invariant.0) (reply_made c.append.result _ _
    (append_made c.args.command.now c.in-Append.log c.in-Append.value c.bytes.result.now c.args.self.now c.in-Append.is c.bytes.ensures) c.append.ensures.reply)

pub returns-in-Multi-clause-state : goal.returns-in-Multi-clause-state
returns-in-Multi-clause-state c =
    state_made c.append-in-Multi.result _ _ _ (multi_made c.args.command.now c.in-Multi.logs c.items.result.now c.in-Multi.value c.bytes-in-Multi.result.now c.args.self.now c.in-Multi.is c.items.ensures c.bytes-in-Multi.ensures)
    c.append-in-Multi.ensures.state

pub returns-in-Multi-clause-reply : goal.returns-in-Multi-clause-reply
returns-in-Multi-clause-reply c =
    reply_made c.append-in-Multi.result _ _ (multi_made c.args.command.now c.in-Multi.logs c.items.result.now c.in-Multi.value c.bytes-in-Multi.result.now c.args.self.now c.in-Multi.is c.items.ensures c.bytes-in-Multi.ensures)
    c.append-in-Multi.ensures.reply

pub returns-in-Multi-clause-spelled : goal.returns-in-Multi-clause-spelled
returns-in-Multi-clause-spelled c =
    spelled_made c.append-in-Multi.result c.args.command.now c.args.self.now c.requires.valid (of_view _ _ c.self.view_is c.self.invariant.0) (reply_made c.append-in-Multi.result _ _
    (multi_made c.args.command.now c.in-Multi.logs c.items.result.now c.in-Multi.value c.bytes-in-Multi.result.now c.args.self.now c.in-Multi.is c.items.ensures c.bytes-in-Multi.ensures) c.append-in-Multi.ensures.reply)

pub returns-in-ReadLog-clause-reply : goal.returns-in-ReadLog-clause-reply
returns-in-ReadLog-clause-reply c = reply_made c.read.result _ _ (read_made c.args.command.now c.in-ReadLog.log c.in-ReadLog.position c.args.self.now c.in-ReadLog.is) c.read.ensures

pub returns-in-ReadLog-clause-spelled : goal.returns-in-ReadLog-clause-spelled
returns-in-ReadLog-clause-spelled c =
    spelled_made c.read.result c.args.command.now c.args.self.now c.requires.valid (of_view _ _ c.self.view_is c.self.invariant.0)
    (reply_made c.read.result _ _ (read_made c.args.command.now c.in-ReadLog.log c.in-ReadLog.position c.args.self.now c.in-ReadLog.is) c.read.ensures)

pub returns-in-ReadLog-clause-state : goal.returns-in-ReadLog-clause-state
returns-in-ReadLog-clause-state c = unchanged_made c.read.result c.args.self.now _ _ (read_made c.args.command.now c.in-ReadLog.log c.in-ReadLog.position c.args.self.now c.in-ReadLog.is) refl

pub returns-in-TrimLog-clause-state : goal.returns-in-TrimLog-clause-state
returns-in-TrimLog-clause-state c =
    ap (λ (l : List LogState). Logs l) (c.trim.ensures.state ∙ ap (λ (f : Effect). f.logs) (sym (trim_made c.args.command.now c.in-TrimLog.log c.in-TrimLog.position c.args.self.now c.in-TrimLog.is)))

pub returns-in-TrimLog-clause-reply : goal.returns-in-TrimLog-clause-reply
returns-in-TrimLog-clause-reply c = c.trim.ensures.reply ∙ ap (λ (f : Effect). f.reply) (sym (trim_made c.args.command.now c.in-TrimLog.log c.in-TrimLog.position c.args.self.now c.in-TrimLog.is))

pub returns-in-TrimLog-clause-spelled : goal.returns-in-TrimLog-clause-spelled
returns-in-TrimLog-clause-spelled c =
    same_reply c.args.command.now c.args.self.now c.trim.result c.requires.valid (of_view _ _ c.self.view_is c.self.invariant.0)
    (c.trim.ensures.reply ∙ ap (λ (f : Effect). f.reply) (sym (trim_made c.args.command.now c.in-TrimLog.log c.in-TrimLog.position c.args.self.now c.in-TrimLog.is)))
