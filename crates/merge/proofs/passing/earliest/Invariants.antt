use Rattle.std.proofs.Common.{◌≡◌, ◌<◌, length, slice_index_or, drop}
use Rattle.mrp_types.specs.Rounds.{size_of}
use Rattle.mrp_types.specs.Moves.{next_place}
use Rattle.merge.proofs.Turns.{none}
use Rattle.merge.proofs.passing.earliest.Given as goal

-- the earliest from here on
abbrev pub invariant-loop-i : goal.invariant-loop-i
invariant-loop-i l = record { within : l.first < length l.pairs; first : slice_index_or l.pairs l.first none ≡ next_place (size_of l.m) (drop l.i l.pairs) }
