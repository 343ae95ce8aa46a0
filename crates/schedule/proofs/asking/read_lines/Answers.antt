use Rattle.std.proofs.Common.{arith, sym, inr}
use Rattle.schedule.proofs.AskLaws.{nothing, inside, refused, one_line, two_lines}
use Rattle.schedule.proofs.asking.read_lines.Goals as goal

pub returns-in_default : goal.returns-in_default
returns-in_default c = inr (nothing c.args.deployment.now c.args.bytes.now (sym c.in_default.ensures))

pub overflow_sub-bytes : goal.overflow_sub-bytes
overflow_sub-bytes c = inside c.args.bytes.now c.in-Some.first.text.now c.in-Some.first.after.now c.in-Some.first.ended (sym c.in-Some.ensures)

pub returns-in_err-command : goal.returns-in_err-command
returns-in_err-command c =
    refused c.args.deployment.now c.args.bytes.now c.in-Some.first.text.now c.in-Some.first.after.now c.in-Some.first.ended c.in_err-command.field-0.0 c.from_residual.result
    (sym c.in-Some.ensures) c.in_err-command.ensures c.from_residual.ensures.1

pub returns-in_default-split_line : goal.returns-in_default-split_line
returns-in_default-split_line c =
    one_line c.args.deployment.now c.args.bytes.now c.in-Some.first.text.now c.in-Some.first.after.now c.in-Some.first.ended c.in_ok-command.command
    (sym c.in-Some.ensures) c.in_ok-command.ensures (sym c.in_default-split_line.ensures)

pub overflow_sub-bytes-2 : goal.overflow_sub-bytes-2
overflow_sub-bytes-2 c =
    let first = inside c.args.bytes.now c.in-Some.first.text.now c.in-Some.first.after.now c.in-Some.first.ended (sym c.in-Some.ensures) in
    let second = inside c.in-Some.first.after.now c.in-Some-split_line.second.text.now c.in-Some-split_line.second.after.now c.in-Some-split_line.second.ended (sym c.in-Some-split_line.ensures) in
    omega (arith, first, second)

pub returns : goal.returns
returns c =
    rw c.fault_behind.ensures (inr (two_lines c.args.deployment.now c.args.bytes.now c.in-Some.first.text.now c.in-Some.first.after.now c.in-Some-split_line.second.text.now
    c.in-Some-split_line.second.after.now c.in-Some.first.ended c.in-Some-split_line.second.ended c.in_ok-command.command (sym c.in-Some.ensures) c.in_ok-command.ensures
    (sym c.in-Some-split_line.ensures)))
