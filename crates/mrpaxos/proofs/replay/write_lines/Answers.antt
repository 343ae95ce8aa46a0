use Rattle.std.proofs.Common.{refl, arith, ◌+◌, ◌∙◌, ap, drop}
use Rattle.transcript.specs.Spelling.{line_bytes, lines_text}
use Rattle.outside.proofs.HandingLaws.{begins, goes_further, refused, stops, not_handed, all_added}
use Rattle.mrpaxos.proofs.Runs.{item_at, none_at}
use Rattle.mrpaxos.proofs.replay.write_lines.Goals as goal

pub loop-line-init : goal.loop-line-init
loop-line-init g c = record { written = begins _ _ _ _ refl; kept = grind arith }

pub returns-in_err-put_line-clause-written : goal.returns-in_err-put_line-clause-written
returns-in_err-put_line-clause-written g c =
    let given = c.from_residual.ensures.1 in
    not_handed _ _ _ _ _ c.from_residual.result given (stops _ _ c.loop-line.text _ _ _ _ given c.loop-line.invariant.written)

pub returns-in_err-write_piece-clause-written : goal.returns-in_err-write_piece-clause-written
returns-in_err-write_piece-clause-written g c =
    let lines = c.args.lines.now in
    let i = c.loop-line.line-index in
    let parts = ap lines_text (item_at lines i c.line-item.result c.loop-line-test.true c.line-item.is) in
    let given = c.from_residual-in_err-write_piece.ensures.1 in
    not_handed _ _ _ _ _ c.from_residual-in_err-write_piece.result given
    (refused _ _ _ c.loop-line.text c.put_line.new.out (line_bytes c.line-item.result) (lines_text (drop (i + 1) lines)) (lines_text (drop i lines)) _ _ _ _
    given parts c.in_ok-put_line.ensures c.loop-line.invariant.written c.in_err-write_piece.ensures.bytes)

pub loop-line-preserved : goal.loop-line-preserved
loop-line-preserved g c =
    let lines = c.args.lines.now in
    let i = c.loop-line.line-index in
    let parts = ap lines_text (item_at lines i c.line-item.result c.loop-line-test.true c.line-item.is) in
    record {
      written = goes_further _ _ _ c.loop-line.text c.put_line.new.out (line_bytes c.line-item.result) (lines_text (drop (i + 1) lines)) (lines_text (drop i lines)) _ _
          parts c.in_ok-put_line.ensures c.loop-line.invariant.written c.in_ok-write_piece.ensures.bytes;
      kept = c.in_ok-write_piece.ensures.fault ∙ c.loop-line.invariant.kept;
    }

pub returns-clause-written : goal.returns-clause-written
returns-clause-written g c =
    all_added _ _ c.loop-line.text _ _ (ap lines_text (none_at c.args.lines.now c.loop-line.line-index c.loop-line-test.false)) c.loop-line.invariant.written
