use Rattle.std.proofs.Common.{arith, sym, inr, ◌≡◌, ◌<◌, length}
use Rattle.std.proofs.lemmas.Grind.{common_steps}
use Rattle.schedule.proofs.Lines.{all_read, turn, moved_on, refused, past}
use Rattle.schedule.proofs.reading.read_lines.Goals as goal

pub returns-in_default : goal.returns-in_default
returns-in_default c =
    all_read c.args.deployment.now c.loop-line.events.items c.args.bytes.now c.loop-line.rest.now c.loop-line.invariant.all (sym c.in_default.ensures) c.from_vec.result c.from_vec.ensures

pub overflow_sub-end : goal.overflow_sub-end
overflow_sub-end c =
    let taken = turn c.args.deployment.now c.loop-line.events.items c.args.bytes.now c.loop-line.rest.now c.in-Some.first.text.now c.in-Some.first.after.now c.in-Some.first.ended
    c.loop-line.invariant.all c.loop-line.invariant.inside (sym c.in-Some.ensures) in
    taken.inside

pub returns-in_err-event : goal.returns-in_err-event
returns-in_err-event c =
    let taken = turn c.args.deployment.now c.loop-line.events.items c.args.bytes.now c.loop-line.rest.now c.in-Some.first.text.now c.in-Some.first.after.now c.in-Some.first.ended
    c.loop-line.invariant.all c.loop-line.invariant.inside (sym c.in-Some.ensures) in
    refused c.args.deployment.now c.loop-line.events.items c.in_err-event.field-0.0 c.from_residual.result c.args.bytes.now c.in-Some.first.after.now _ c.loop-line.line
    taken c.loop-line.invariant.count c.loop-line-test.true c.in_err-event.ensures c.from_residual.ensures.1

pub loop-line-preserved : goal.loop-line-preserved
loop-line-preserved c =
    let taken = turn c.args.deployment.now c.loop-line.events.items c.args.bytes.now c.loop-line.rest.now c.in-Some.first.text.now c.in-Some.first.after.now c.in-Some.first.ended
    c.loop-line.invariant.all c.loop-line.invariant.inside (sym c.in-Some.ensures) in
    record {
      all = moved_on c.args.deployment.now c.loop-line.events.items c.push.new.self.items c.in_ok-event.event c.args.bytes.now c.in-Some.first.after.now _ c.loop-line.line
          taken c.loop-line.invariant.count c.loop-line-test.true c.in_ok-event.ensures c.in-Ok.ensures.items;
      inside = taken.inside;
      count = grind (arith, common_steps, c.in-Ok.ensures.items, c.loop-line.invariant.count);
      few = grind (arith, common_steps, c.in-Ok.ensures.items, c.loop-line.invariant.count, c.loop-line-test.true);
    }

pub returns : goal.returns
returns c =
    let rest = c.loop-line.rest.now in
    let some : 0 < length rest = grind (arith, common_steps, c.if-is_empty.ensures, c.if-is_empty.false) in
    let full : length c.loop-line.events.items ≡ 1048576 = omega (arith, c.loop-line.invariant.count, c.loop-line.invariant.few, c.loop-line-test.false) in
    inr (past c.args.deployment.now c.loop-line.events.items c.args.bytes.now rest c.loop-line.invariant.all some full)
