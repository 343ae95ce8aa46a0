use Rattle.std.proofs.Common.{arith, ap, ◌∙◌, ℕ, ◌+◌}
use Rattle.services.specs.Parts.{Logs, part_size}
use Rattle.replica_state.proofs.ApplyLaws.{has_room, is_for_logs, is_for_table, logs_new, logs_same, logs_reply, table_new, table_same, table_reply}
use Rattle.replica_state.proofs.parts.take_command.Goals as goal

pub overflow_add-used : goal.overflow_add-used
overflow_add-used c = omega (arith, has_room c.args.logs.now c.args.table.now c.requires.room, c.size.ensures, c.size-2.ensures)

pub take-requires-clause-used : goal.take-requires-clause-used
take-requires-clause-used c = omega (arith, has_room c.args.logs.now c.args.table.now c.requires.room, c.size.ensures, c.size-2.ensures)

pub take-requires-2-clause-used : goal.take-requires-2-clause-used
take-requires-2-clause-used c = omega (arith, has_room c.args.logs.now c.args.table.now c.requires.room, c.size.ensures, c.size-2.ensures)

pub returns-then-is_on_logs-clause-logs : goal.returns-then-is_on_logs-clause-logs
returns-then-is_on_logs-clause-logs c =
    logs_new c.args.command.now c.args.logs.now _ c.args.table.now (c.size.result + c.size-2.result) c.take.result c.requires.room
    (is_for_logs c.args.command.now c.args.logs.now c.args.table.now c.is_on_logs.result c.requires.concerned c.is_on_logs.ensures c.if-is_on_logs.true) (ap (λ (n : ℕ). n + c.size-2.result) c.size.ensures ∙ ap (λ (n : ℕ). part_size (Logs c.args.logs.now) + n) c.size-2.ensures)
    c.take.ensures.state

pub returns-then-is_on_logs-clause-table : goal.returns-then-is_on_logs-clause-table
returns-then-is_on_logs-clause-table c =
    logs_same c.args.command.now c.args.logs.now _ c.args.table.now (c.size.result + c.size-2.result) c.take.result c.requires.room
    (is_for_logs c.args.command.now c.args.logs.now c.args.table.now c.is_on_logs.result c.requires.concerned c.is_on_logs.ensures c.if-is_on_logs.true) (ap (λ (n : ℕ). n + c.size-2.result) c.size.ensures ∙ ap (λ (n : ℕ). part_size (Logs c.args.logs.now) + n) c.size-2.ensures)
    c.take.ensures.state

pub returns-then-is_on_logs-clause-reply : goal.returns-then-is_on_logs-clause-reply
returns-then-is_on_logs-clause-reply c =
    logs_reply c.args.command.now c.args.logs.now _ c.args.table.now (c.size.result + c.size-2.result) c.take.result c.requires.room
    (is_for_logs c.args.command.now c.args.logs.now c.args.table.now c.is_on_logs.result c.requires.concerned c.is_on_logs.ensures c.if-is_on_logs.true) (ap (λ (n : ℕ). n + c.size-2.result) c.size.ensures ∙ ap (λ (n : ℕ). part_size (Logs c.args.logs.now) + n) c.size-2.ensures)
    c.take.ensures.state c.take.ensures.reply

pub returns-clause-logs : goal.returns-clause-logs
returns-clause-logs c =
    table_same c.args.command.now c.args.logs.now c.args.table.now _ (c.size.result + c.size-2.result) c.take-2.result c.requires.room
    (is_for_table c.args.command.now c.args.logs.now c.args.table.now c.is_on_logs.result c.requires.concerned c.is_on_logs.ensures c.if-is_on_logs.false) (ap (λ (n : ℕ). n + c.size-2.result) c.size.ensures ∙ ap (λ (n : ℕ). part_size (Logs c.args.logs.now) + n) c.size-2.ensures)
    c.take-2.ensures.state

pub returns-clause-table : goal.returns-clause-table
returns-clause-table c =
    table_new c.args.command.now c.args.logs.now c.args.table.now _ (c.size.result + c.size-2.result) c.take-2.result c.requires.room
    (is_for_table c.args.command.now c.args.logs.now c.args.table.now c.is_on_logs.result c.requires.concerned c.is_on_logs.ensures c.if-is_on_logs.false) (ap (λ (n : ℕ). n + c.size-2.result) c.size.ensures ∙ ap (λ (n : ℕ). part_size (Logs c.args.logs.now) + n) c.size-2.ensures)
    c.take-2.ensures.state

pub returns-clause-reply : goal.returns-clause-reply
returns-clause-reply c =
    table_reply c.args.command.now c.args.logs.now c.args.table.now _ (c.size.result + c.size-2.result) c.take-2.result c.requires.room
    (is_for_table c.args.command.now c.args.logs.now c.args.table.now c.is_on_logs.result c.requires.concerned c.is_on_logs.ensures c.if-is_on_logs.false) (ap (λ (n : ℕ). n + c.size-2.result) c.size.ensures ∙ ap (λ (n : ℕ). part_size (Logs c.args.logs.now) + n) c.size-2.ensures)
    c.take-2.ensures.state c.take-2.ensures.reply
