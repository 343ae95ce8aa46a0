-- Sizes of rounds stay in their range.
use Rattle.std.proofs.Common.{arith, ℕ, zero, suc, ◌≤◌, replicate}
use Rattle.mrp_types.specs.Rounds.{AreSizes}

pub all_same : (n m : ℕ) → 1 ≤ m → m ≤ 1024 → AreSizes (replicate n m)
all_same zero m least most ring = (omega arith, omega arith)
all_same (suc n) m least most zero = (least, most)
all_same (suc n) m least most (suc ring) = all_same n m least most ring
