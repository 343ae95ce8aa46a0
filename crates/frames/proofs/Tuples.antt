-- Pairs of rings that increase, one more behind the others.
use Rattle.std.proofs.Common.{arith, ℕ, ◌+◌, ◌<◌, ◌≤◌, ◌^◌, List, [], ◌∷◌, ◌++◌}
use Rattle.mrp_types.specs.declared.id.RingId.{RingId}
use Rattle.mrp_types.specs.Tuples.{AreNexts}

-- pairs from a ring on, and the first ring that may follow them
abbrev pub AreNextsTo : ℕ → ℕ → List (RingId × ℕ) → Type 0
AreNextsTo least after [] = least ≤ after
AreNextsTo least after (x ∷ pairs) = (least ≤ x.0.0) × (x.0.0 < 16) × (x.1 ≤ 2 ^ 40) × AreNextsTo (x.0.0 + 1) after pairs

pub are_nexts : (least after : ℕ) (pairs : List (RingId × ℕ)) → AreNextsTo least after pairs → AreNexts least pairs
are_nexts least after [] h = tt
are_nexts least after (x ∷ pairs) h = (h.0, h.1, h.2, are_nexts (x.0.0 + 1) after pairs h.3)

pub one_behind : (least after : ℕ) (pairs : List (RingId × ℕ)) (x : RingId × ℕ) → AreNextsTo least after pairs → after ≤ x.0.0 → x.0.0 < 16 → x.1 ≤ 2 ^ 40 → AreNextsTo least (x.0.0 + 1) (pairs ++ x ∷ [])
one_behind least after [] x h behind low inst = (omega (arith, h, behind), low, inst, omega arith)
one_behind least after (y ∷ pairs) x h behind low inst = (h.0, h.1, h.2, one_behind (y.0.0 + 1) after pairs x h.3 behind low inst)
