-- Two groups, said as tests, share a member.
use Rattle.std.proofs.Common.{◌≡◌, ℕ, zero, suc, ◌+◌, ◌<◌, ◌≤◌, Bool, true, false, refl, arith, cond}
use Rattle.quorums.specs.Groups.{count, IsMajority, Shared}

wider : {n : ℕ} {g h : ℕ → Bool} → Shared n g h → Shared (suc n) g h
wider s = let b : s.member < _ = s.below in record { member = s.member; below = omega arith; in_first = s.in_first; in_second = s.in_second }

-- in each case either n is shared, or the members below n are still too many
last_member : (n : ℕ) (g h : ℕ → Bool) (b c : Bool) → g n ≡ b → h n ≡ c → suc n < (cond b 1 0 + count g n) + (cond c 1 0 + count h n)
    → (n < count g n + count h n → Shared n g h) → Shared (suc n) g h
last_member n g h true true p q lt rest = record { member = n; below = omega arith; in_first = p; in_second = q }
last_member n g h true false p q lt rest = wider (rest (omega arith))
last_member n g h false true p q lt rest = wider (rest (omega arith))
last_member n g h false false p q lt rest = wider (rest (omega arith))

pub groups_meet : (n : ℕ) (g h : ℕ → Bool) → n < count g n + count h n → Shared n g h
groups_meet zero g h lt = absurd (omega arith)
groups_meet (suc n) g h lt = last_member n g h (g n) (h n) refl refl lt (groups_meet n g h)

pub majorities_meet : (n : ℕ) (g h : ℕ → Bool) → IsMajority n g → IsMajority n h → Shared n g h
majorities_meet n g h p q = groups_meet n g h (omega arith)

pub quorums_meet : (n trims recovers : ℕ) (g h : ℕ → Bool) → n < trims + recovers → trims ≤ count g n → recovers ≤ count h n → Shared n g h
quorums_meet n trims recovers g h more p q = groups_meet n g h (omega arith)
