use Rattle.std.proofs.Common.{◌≡◌, drop}
use Rattle.schedule.specs.Spelling.{schedule_text}
use Rattle.outside.proofs.HandingLaws.{Goes}
use Rattle.mrpaxos.proofs.draw.write_events.Given as goal

-- the lines so far were written or are held
abbrev pub invariant-loop-event : goal.invariant-loop-event
invariant-loop-event g l =
    let taken = g.O.Sink.taken in
    record {
      written : Goes (taken l.fn.out) (taken l.out) l.text (schedule_text (drop l.event-index l.events)) (schedule_text l.events);
      kept : g.O.Sink.faults l.out ≡ g.O.Sink.faults l.fn.out;
    }
