use Rattle.hex.specs.Hex.{encode_lower}
use Rattle.text_lines.proofs.Digits.{digits_further, all_digits}
use Rattle.text_lines.proofs.writing.put_hex.Goals as goal

pub loop-rest-preserved : goal.loop-rest-preserved
loop-rest-preserved c =
    digits_further _ _ c.loop-rest.rest.now c.split_at.result.0.now c.split_at.result.1.now _ c.split_at.ensures.by_index.0 c.in_ok-put_piece.ensures c.loop-rest.invariant

pub returns : goal.returns
returns c = all_digits c.loop-rest.out _ c.loop-rest.rest.now (encode_lower c.args.bytes.now) c.loop-rest-test.ensures c.loop-rest.invariant
