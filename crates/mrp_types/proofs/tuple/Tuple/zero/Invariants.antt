use Rattle.std.proofs.Common.{◌≡◌, take}
use Rattle.mrp_types.specs.Tuples.{filled}
use Rattle.mrp_types.specs.Moves.{first_tuple}
use Rattle.mrp_types.proofs.tuple.Tuple.zero.Given as goal

-- the pairs so far, and nothing behind them
abbrev pub invariant-loop-i : goal.invariant-loop-i
invariant-loop-i l = l.kept ≡ filled (take l.i (first_tuple l.rings))
