use Rattle.std.proofs.Common.{arith, ◌+◌, ◌∙◌, ap, length, drop}
use Rattle.outside.proofs.HandingLaws.{stops, handed_on}
use Rattle.mrpaxos.proofs.Runs.{begins, refused, one_more, ends, done_on, item_at, none_at, valid_after}
use Rattle.mrpaxos.proofs.replay.replay.Goals as goal

pub loop-event-init : goal.loop-event-init
loop-event-init g c = record {
  written = begins _ _ c.args.ring c.args.schedule.now _ _ c.in_ok-text.ensures c.in_ok-world.ensures c.items-event-items.ensures;
  kept = grind arith;
  valid = rw c.items-event-items.ensures c.requires.events;
}

pub returns-in_err-replay_event-clause-written : goal.returns-in_err-replay_event-clause-written
returns-in_err-replay_event-clause-written g c =
    let items = c.items-event-items.result.now in
    let i = c.loop-event.event-index in
    let is = item_at items i c.event-item.result c.loop-event-test.true c.event-item.is in
    refused _ _ _ c.loop-event.text c.args.ring c.args.schedule.now (drop i items) (drop (i + 1) items) c.loop-event.world c.event-item.result c.in_err-replay_event.field-0.0
    c.from_residual-in_err-replay_event.result c.from_residual-in_err-replay_event.ensures.1 is c.loop-event.invariant.written c.in_err-replay_event.ensures.written

pub loop-event-preserved : goal.loop-event-preserved
loop-event-preserved g c =
    let items = c.items-event-items.result.now in
    let i = c.loop-event.event-index in
    let is = item_at items i c.event-item.result c.loop-event-test.true c.event-item.is in
    record {
      written = one_more _ _ _ c.loop-event.text _ c.args.ring c.args.schedule.now (drop i items) (drop (i + 1) items) c.loop-event.world c.replay_event.new.world c.event-item.result
          is c.in_ok-replay_event.ensures.world c.loop-event.invariant.written c.in_ok-replay_event.ensures.written;
      kept = c.in_ok-replay_event.ensures.fault ∙ c.loop-event.invariant.kept;
      valid = (valid_after c.event-item.result (drop i items) (drop (i + 1) items) is c.loop-event.invariant.valid).1;
    }

pub returns-in_err-put_line-clause-written : goal.returns-in_err-put_line-clause-written
returns-in_err-put_line-clause-written g c = stops _ _ c.loop-event.text _ _ _ _ c.from_residual-in_err-put_line.ensures.1 c.loop-event.invariant.written

pub returns-in_err-write_all-clause-written : goal.returns-in_err-write_all-clause-written
returns-in_err-write_all-clause-written g c =
    let items = c.items-event-items.result.now in
    let i = c.loop-event.event-index in
    handed_on _ _ _ _ _ c.from_residual-in_err-write_all.result c.from_residual-in_err-write_all.ensures.1
    (ends _ _ _ c.loop-event.text c.put_line.new.out c.args.ring c.args.schedule.now (drop i items) c.loop-event.world (length c.items.result.now) _
    (none_at items i c.loop-event-test.false) (ap length c.items.ensures) c.loop-event.invariant.written c.in_ok-put_line.ensures (rw c.bytes.ensures at c.in_err-write_all.ensures.bytes))

pub returns-clause-written : goal.returns-clause-written
returns-clause-written g c =
    let items = c.items-event-items.result.now in
    let i = c.loop-event.event-index in
    ends _ _ _ c.loop-event.text c.put_line.new.out c.args.ring c.args.schedule.now (drop i items) c.loop-event.world (length c.items.result.now) _
    (none_at items i c.loop-event-test.false) (ap length c.items.ensures) c.loop-event.invariant.written c.in_ok-put_line.ensures
    (done_on _ _ _ (rw c.bytes.ensures at c.in_ok-write_all.ensures.bytes))
