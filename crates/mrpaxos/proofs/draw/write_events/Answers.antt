use Rattle.std.proofs.Common.{refl, arith, ℕ, List, ◌+◌, ◌++◌, ◌∙◌, ap, sym, drop, append-nil}
use Rattle.schedule.specs.Spelling.{event_text, schedule_text}
use Rattle.outside.proofs.HandingLaws.{begins, goes_further, refused, ends}
use Rattle.mrpaxos.proofs.Runs.{item_at, none_at}
use Rattle.mrpaxos.proofs.draw.write_events.Goals as goal

pub loop-event-init : goal.loop-event-init
loop-event-init g c = record {
  written = begins _ _ _ _ (ap (λ (l : List ℕ). l ++ schedule_text c.args.events.now) c.in_ok-text.ensures);
  kept = grind arith;
}

pub returns-in_err-write_event-clause-written : goal.returns-in_err-write_event-clause-written
returns-in_err-write_event-clause-written g c =
    let events = c.args.events.now in
    let i = c.loop-event.event-index in
    let parts = ap schedule_text (item_at events i c.event-item.result c.loop-event-test.true c.event-item.is) in
    refused _ _ _ c.loop-event.text (c.loop-event.text ++ event_text c.event-item.result) (event_text c.event-item.result) (schedule_text (drop (i + 1) events)) (schedule_text (drop i events)) _ _ _ _
    c.from_residual-in_err-write_event.ensures.1 parts refl c.loop-event.invariant.written c.in_err-write_event.ensures.written

pub loop-event-preserved : goal.loop-event-preserved
loop-event-preserved g c =
    let events = c.args.events.now in
    let i = c.loop-event.event-index in
    let parts = ap schedule_text (item_at events i c.event-item.result c.loop-event-test.true c.event-item.is) in
    record {
      written = goes_further _ _ _ c.loop-event.text (c.loop-event.text ++ event_text c.event-item.result) (event_text c.event-item.result) (schedule_text (drop (i + 1) events)) (schedule_text (drop i events)) _ _
          parts refl c.loop-event.invariant.written c.in_ok-write_event.ensures.written;
      kept = c.in_ok-write_event.ensures.fault ∙ c.loop-event.invariant.kept;
    }

pub returns-clause-written : goal.returns-clause-written
returns-clause-written g c =
    let none = ap schedule_text (none_at c.args.events.now c.loop-event.event-index c.loop-event-test.false) in
    ends _ _ _ c.loop-event.text c.loop-event.text (schedule_text (drop c.loop-event.event-index c.args.events.now)) _ _
    (sym (append-nil c.loop-event.text) ∙ ap (λ (l : List ℕ). c.loop-event.text ++ l) (sym none)) c.loop-event.invariant.written (rw c.bytes.ensures at c.write_all.ensures.bytes)
