use Rattle.std.proofs.Common.{◌≡◌, ◌≤◌, ◌<◌, ◌+◌, length}
use Rattle.std.specs.Io.KnownBytes.{Consumes}
use Rattle.outside.proofs.source.read_pieces.Given as goal

-- the bytes so far came, at least one a turn
abbrev pub invariant-loop-turn : goal.invariant-loop-turn
invariant-loop-turn g l =
    let left = g.I.Source.left in
    let reads = g.I.Source.reads in
    record {
      came : Consumes (left l.fn.source) (left l.source) l.bytes.items;
      turns : l._turn ≤ length l.bytes.items;
      within : length l.bytes.items ≤ l.most;
      room : l._turn < l.most → length l.bytes.items < l.most;
      made : reads l.source ≤ reads l.fn.source + length l.bytes.items;
      kept : g.I.Source.faults l.source ≡ g.I.Source.faults l.fn.source;
    }
