use Rattle.std.proofs.Common.{arith}
use Rattle.std.proofs.lemmas.Grind.{common_steps}
use Rattle.outside.proofs.ReadingLemmas.{refused_on}
use Rattle.outside.proofs.source.read_pieces.Goals as goal

pub returns-in_err-read_piece : goal.returns-in_err-read_piece
returns-in_err-read_piece g c =
    refused_on c.args.most _ _ _ _ _ _ _ _ _ _ c.loop-turn.bytes.items _ _ c.from_residual.result c.from_residual.ensures.1
    c.loop-turn.invariant.came c.loop-turn.invariant.kept c.loop-turn.invariant.made (grind (arith, common_steps)) c.in_err-read_piece.ensures
