use Rattle.std.proofs.Common.{◌≡◌, drop}
use Rattle.mrp_types.specs.Rounds.{size_of}
use Rattle.mrp_types.specs.Moves.{next_place}
use Rattle.mrp_types.proofs.tuple.first_of.Given as goal

-- the earliest from here on
abbrev pub invariant-loop-i : goal.invariant-loop-i
invariant-loop-i l = l.first ≡ next_place (size_of l.m) (drop l.i l.pairs)
