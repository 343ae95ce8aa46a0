use Rattle.std.proofs.Common.{◌≡◌, ◌+◌, length, drop}
use Rattle.std.specs.List.{flat_map, AllByRecursion}
use Rattle.mrp_types.specs.declared.voted.Decided.{Decided}
use Rattle.command_codec.specs.Parts.{IsSpelled}
use Rattle.frames.specs.Spelling.{decided_bytes}
use Rattle.frames.proofs.sizes.ranges_size.Given as goal

-- what was counted, and what is left to count
abbrev pub invariant-loop-decided : goal.invariant-loop-decided
invariant-loop-decided l = record {
  all : l.size + length (flat_map decided_bytes (drop l.decided-index l.ranges)) ≡ length (flat_map decided_bytes l.ranges);
  spelled : AllByRecursion (λ (d : Decided). IsSpelled d.value) (drop l.decided-index l.ranges);
}
