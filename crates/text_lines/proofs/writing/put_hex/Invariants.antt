use Rattle.std.proofs.Common.{◌≡◌, ◌∷◌, ◌++◌, [], length}
use Rattle.hex.specs.Hex.{encode_lower}
use Rattle.text_lines.proofs.writing.put_hex.Given as goal

-- the digits so far and those of the bytes that are left are all
abbrev pub invariant-loop-rest : goal.invariant-loop-rest
invariant-loop-rest l = l.out ++ encode_lower l.rest ≡ (l.fn.out ++ 32 ∷ []) ++ encode_lower l.fn.bytes

abbrev pub decreases-loop-rest : goal.decreases-loop-rest
decreases-loop-rest l = length l.rest
