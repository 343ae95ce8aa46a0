use Rattle.std.proofs.Common.{◌≡◌, ◌++◌, drop}
use Rattle.transcript.specs.Spelling.{lines_text}
use Rattle.outside.proofs.HandingLaws.{Goes}
use Rattle.mrpaxos.proofs.replay.write_lines.Given as goal

-- the lines so far were written or are held
abbrev pub invariant-loop-line : goal.invariant-loop-line
invariant-loop-line g l =
    let taken = g.O.Sink.taken in
    record {
      written : Goes (taken l.fn.out) (taken l.out) l.text (lines_text (drop l.line-index l.lines)) (l.fn.text ++ lines_text l.lines);
      kept : g.O.Sink.faults l.out ≡ g.O.Sink.faults l.fn.out;
    }
