use Rattle.std.proofs.Common.{◌≡◌, take}
use Rattle.mrp_types.specs.Tuples.{filled}
use Rattle.mrp_types.specs.Moves.{moved_past}
use Rattle.mrp_types.proofs.tuple.moved.Given as goal

-- the pairs so far, and nothing behind them
abbrev pub invariant-loop-i : goal.invariant-loop-i
invariant-loop-i l = l.kept ≡ filled (take l.i (moved_past l.place l.pairs))
