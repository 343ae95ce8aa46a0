use Rattle.std.proofs.Common.{◌≡◌, length, take}
use Rattle.merge.proofs.merging.padded.Given as goal

-- the pairs so far
abbrev pub invariant-loop-i : goal.invariant-loop-i
invariant-loop-i l = record { taken : take l.i l.kept ≡ take l.i l.pairs; many : length l.kept ≡ 16 }
