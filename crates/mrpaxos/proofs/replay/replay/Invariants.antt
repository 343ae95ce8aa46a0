use Rattle.std.proofs.Common.{◌≡◌, drop}
use Rattle.std.specs.List.{AllByRecursion}
use Rattle.world.specs.System.{MayHappen}
use Rattle.mrpaxos.proofs.Runs.{Replayed}
use Rattle.mrpaxos.proofs.replay.replay.Given as goal

-- the lines of the events so far were written or are held, and the world is where they leave it
abbrev pub invariant-loop-event : goal.invariant-loop-event
invariant-loop-event g l =
    let taken = g.O.Sink.taken in
    record {
      written : Replayed (taken l.fn.out) (taken l.out) l.text l.fn.ring l.fn.schedule l.world (drop l.event-index l.event-items);
      kept : g.O.Sink.faults l.out ≡ g.O.Sink.faults l.fn.out;
      valid : AllByRecursion MayHappen (drop l.event-index l.event-items);
    }
