use Rattle.std.proofs.Common.{◌≡◌, ◌++◌, drop}
use Rattle.std.specs.List.{flat_map, AllByRecursion}
use Rattle.mrp_types.specs.declared.voted.Decided.{Decided}
use Rattle.command_codec.specs.Parts.{IsSpelled}
use Rattle.frames.specs.Spelling.{decided_bytes, ranges_bytes}
use Rattle.frames.proofs.writing.put_ranges.Given as goal

-- what was written, and what is left to write
abbrev pub invariant-loop-decided : goal.invariant-loop-decided
invariant-loop-decided l = record {
  all : l.out ++ flat_map decided_bytes (drop l.decided-index l.ranges) ≡ l.fn.out ++ ranges_bytes l.ranges;
  spelled : AllByRecursion (λ (d : Decided). IsSpelled d.value) (drop l.decided-index l.ranges);
}
