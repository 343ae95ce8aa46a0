use Rattle.std.proofs.Common.{◌≡◌, drop}
use Rattle.text_lines.specs.Split.{place_of}
use Rattle.text_lines.proofs.Places.{onwards}
use Rattle.text_lines.proofs.find.find_byte.Given as goal

-- the byte may stand in what is left
abbrev pub invariant-loop-place : goal.invariant-loop-place
invariant-loop-place l = place_of l.byte l.bytes ≡ onwards l.place (place_of l.byte (drop l.place l.bytes))
