use Rattle.std.proofs.Common.{◌≡◌, drop}
use Rattle.mrp_types.specs.Rounds.{size_of}
use Rattle.mrp_types.specs.Moves.{are_lasts_before}
use Rattle.mrp_types.proofs.tuple.are_lasts_before.Given as goal

-- what is left decides
abbrev pub invariant-loop-pair : goal.invariant-loop-pair
invariant-loop-pair l = are_lasts_before (size_of l.m) l.next (drop l.pair-index l.pairs) ≡ are_lasts_before (size_of l.m) l.next l.pairs
