-- Tuples: for each of some rings, in increasing order, the next instance.
use Rattle.std.specs.Prelude.{ℕ, ◌+◌, ◌-◌, ◌<◌, ◌≤◌, ◌^◌, List, [], ◌∷◌, ◌++◌, length, replicate}
use Rattle.mrp_types.specs.declared.id.RingId.{RingId}

-- each ring is greater than the one before it and below 16, and no instance is past the end
abbrev pub AreNexts : ℕ → List (RingId × ℕ) → Type 0
AreNexts least [] = Unit {0}
AreNexts least (x ∷ pairs) = (least ≤ x.0.0) × (x.0.0 < 16) × (x.1 ≤ 2 ^ 40) × AreNexts (x.0.0 + 1) pairs

-- 1 to 16 of them
pub record IsTuple (pairs : List (RingId × ℕ)) : Type 0 where
  pub some : 1 ≤ length pairs
  pub few : length pairs ≤ 16
  pub nexts : AreNexts 0 pairs

-- sixteen pairs, of which the last stand for none
abbrev pub filled : List (RingId × ℕ) → List (RingId × ℕ)
filled pairs = pairs ++ replicate (16 - length pairs) ((record { 0 = 0 }), 0)
