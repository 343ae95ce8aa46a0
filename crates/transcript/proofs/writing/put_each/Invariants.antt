use Rattle.std.proofs.Common.{◌≡◌, ◌++◌, drop, map}
use Rattle.std.specs.List.{flat_map}
use Rattle.std.specs.Fmt.{decimal}
use Rattle.text_lines.specs.Text.{set_off}
use Rattle.transcript.proofs.writing.put_each.Given as goal

-- what was written, and what is left to write
abbrev pub invariant-loop-number : goal.invariant-loop-number
invariant-loop-number l = l.out ++ flat_map (set_off l.byte) (map decimal (drop l.number-index l.numbers)) ≡ l.fn.out ++ flat_map (set_off l.byte) (map decimal l.numbers)
