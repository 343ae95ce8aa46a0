use Rattle.std.proofs.Common.{◌≡◌, ◌≤◌, length, take}
use Rattle.std.specs.Io.KnownBytes.{Appends}
use Rattle.outside.proofs.sink.write_all.Given as goal

-- the first bytes were taken, at least one a turn
abbrev pub invariant-loop-turn : goal.invariant-loop-turn
invariant-loop-turn g l =
    let taken = g.O.Sink.taken in
    record {
      taken : Appends (taken l.fn.sink) (taken l.sink) (take l.done l.bytes);
      turns : l._turn ≤ l.done;
      front : l.done ≤ length l.bytes;
      kept : g.O.Sink.faults l.sink ≡ g.O.Sink.faults l.fn.sink;
    }
