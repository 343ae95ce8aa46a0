-- A sum of different powers of two has exactly these bits.
use Rattle.std.proofs.Common.{arith, ◌≡◌, ◌⊎◌, inl, inr, ℕ, zero, suc, ◌+◌, ◌-◌, ◌*◌, ◌^◌, ◌/◌, ◌%◌, ◌<◌, ◌≤◌, ◌==◌, Bool, true, false, if◌then◌else◌, List, [], ◌∷◌, refl, ◌∙◌, ap, None}
use Rattle.std.proofs.lemmas.Grind.{common_steps}
use Rattle.std.proofs.lemmas.Nat.{pow-add}
use Rattle.std.proofs.lemmas.Bool.{cases_lt}
use Rattle.std.proofs.lemmas.Nat.Bits.{bit_at-zero, bit_at-suc, bit_at_lowest}
use Rattle.std.specs.Int.{bit_at}
use Rattle.command_codec.specs.declared.command.Command.{Command}
use Rattle.mrp_config.specs.declared.tables.PartitionTable.{PartitionTable}
use Rattle.mrp_config.specs.Config.{partition_at}
use Rattle.mrp_config.specs.Routing.{is_concerned, bit_of, mask_of}
use Rattle.mrp_config.specs.Valid.{IncreasesFrom, partition_ids, concerns_at}

-- ---- shifted numbers

half_of_even : (n : ℕ) → (2 * n) / 2 ≡ n
half_of_even n = grind (arith, common_steps)

even : (n : ℕ) → (2 * n) % 2 ≡ 0
even n = grind (arith, common_steps)

twice_shifted : (d a : ℕ) → 2 ^ suc d * a ≡ 2 * (2 ^ d * a)
twice_shifted d a = grind (arith, common_steps)

-- below the shift there is no bit, and above it stand the bits of the number
shifted_low : (d a j : ℕ) → j < d → bit_at (2 ^ d * a) j ≡ 0
shifted_low zero a j low = absurd (omega arith)
shifted_low (suc d) a zero low = ap (λ n. bit_at n 0) (twice_shifted d a) ∙ (bit_at_lowest (2 * (2 ^ d * a)) ∙ even (2 ^ d * a))
shifted_low (suc d) a (suc j) low =
    ap (λ n. bit_at n (suc j)) (twice_shifted d a) ∙ (bit_at-suc (2 * (2 ^ d * a)) j ∙ (ap (λ n. bit_at n j) (half_of_even (2 ^ d * a)) ∙ shifted_low d a j (omega arith)))

shifted_high : (d a j i : ℕ) → i ≡ d + j → bit_at (2 ^ d * a) i ≡ bit_at a j
shifted_high zero a j i at =
    let whole : 2 ^ zero * a ≡ a = grind (arith, common_steps) in
    let same : i ≡ j = grind arith in
    ap (λ n. bit_at n i) whole ∙ ap (bit_at a) same
shifted_high (suc d) a j i at =
    let up : i ≡ suc (d + j) = grind arith in
    ap (bit_at (2 ^ suc d * a)) up ∙ (ap (λ n. bit_at n (suc (d + j))) (twice_shifted d a) ∙
    (bit_at-suc (2 * (2 ^ d * a)) (d + j) ∙ (ap (λ n. bit_at n (d + j)) (half_of_even (2 ^ d * a)) ∙ shifted_high d a j (d + j) refl)))

-- a lowest bit before a number
abbrev digit : Bool → ℕ
digit t = if t then 1 else 0

lowest_of : (t : Bool) (r : ℕ) → (digit t + 2 * r) % 2 ≡ digit t
lowest_of true r = grind (arith, common_steps)
lowest_of false r = grind (arith, common_steps)

rest_of : (t : Bool) (r : ℕ) → (digit t + 2 * r) / 2 ≡ r
rest_of true r = grind (arith, common_steps)
rest_of false r = grind (arith, common_steps)

-- ---- partitions

none_at : (start id : ℕ) (ps : List PartitionTable) → IncreasesFrom start (partition_ids ps) → id < start → partition_at ps id ≡ None
none_at start id [] rise low = refl
none_at start id (p ∷ ps) rise low = rw (differ p.id.0 id (omega (arith, rise.0))) (none_at (p.id.0 + 1) id ps rise.1 (omega (arith, rise.0)))
  where
    differ : (a b : ℕ) → b < a → (a == b) ≡ false
    differ a b h = grind arith

-- the sum, from `start` on: which number is shifted by `start`
pub record Summed (command : Command) (start : ℕ) (ps : List PartitionTable) (shifted : ℕ) : Type 0 where
  whole : mask_of command ps ≡ 2 ^ start * shifted
  bits : (j : ℕ) → bit_at shifted j ≡ concerns_at command (partition_at ps (start + j))

bit_is : (command : Command) (p : PartitionTable) → bit_of command p ≡ digit (is_concerned command p) * 2 ^ p.id.0
bit_is command p = by_test (is_concerned command p)
  where
    by_test : (t : Bool) → (if t then 2 ^ p.id.0 else 0) ≡ digit t * 2 ^ p.id.0
    by_test true = grind (arith, common_steps)
    by_test false = grind (arith, common_steps)

joined : (t : Bool) (start d id r : ℕ) → id ≡ start + d → digit t * 2 ^ id + 2 ^ (id + 1) * r ≡ 2 ^ start * (2 ^ d * (digit t + 2 * r))
joined t start d id r at =
    let split : 2 ^ id ≡ 2 ^ start * 2 ^ d = ap (λ n. 2 ^ n) at ∙ pow-add 2 start d in
    let double : 2 ^ (id + 1) ≡ 2 ^ start * 2 ^ d * 2 = pow-add 2 id 1 ∙ ap (λ n. n * 2) split in
    let sides = ring_law (2 ^ start) (2 ^ d) (digit t) r in
    ap (λ n. digit t * n + 2 ^ (id + 1) * r) split ∙ (ap (λ n. digit t * (2 ^ start * 2 ^ d) + n * r) double ∙ sides)
  where
    ring_law : (a b c r : ℕ) → c * (a * b) + a * b * 2 * r ≡ a * (b * (c + 2 * r))
    ring_law a b c r = grind (arith, common_steps)

same_number : (a b : ℕ) → a ≡ b → (a == b) ≡ true
same_number a b h = grind arith

other_number : (a b : ℕ) → a < b ⊎ b < a → (a == b) ≡ false
other_number a b (inl h) = grind arith
other_number a b (inr h) = grind arith

-- where the number j stands to d: below it, or k above it
bit_above : (command : Command) (start : ℕ) (p : PartitionTable) (ps : List PartitionTable) (r d j k : ℕ) → Summed command (p.id.0 + 1) ps r → p.id.0 ≡ start + d → j ≡ d + k →
    bit_at (2 ^ d * (digit (is_concerned command p) + 2 * r)) j ≡ concerns_at command (partition_at (p ∷ ps) (start + j))
bit_above command start p ps r d j zero rest at is =
    let t = is_concerned command p in
    let mine : (p.id.0 == start + j) ≡ true = same_number p.id.0 (start + j) (omega (arith, at, is)) in
    shifted_high d (digit t + 2 * r) zero j is ∙ (bit_at_lowest (digit t + 2 * r) ∙ (lowest_of t r ∙ rw mine refl))
bit_above command start p ps r d j (suc e) rest at is =
    let t = is_concerned command p in
    let other : (p.id.0 == start + j) ≡ false = other_number p.id.0 (start + j) (inl (omega (arith, at, is))) in
    let place : p.id.0 + 1 + e ≡ start + j = omega (arith, at, is) in
    let later : bit_at r e ≡ concerns_at command (partition_at ps (start + j)) = rest.bits e ∙ ap (λ n. concerns_at command (partition_at ps n)) place in
    shifted_high d (digit t + 2 * r) (suc e) j is ∙ (bit_at-suc (digit t + 2 * r) e ∙ (ap (λ n. bit_at n e) (rest_of t r) ∙ (later ∙ rw other refl)))

bit_here : (command : Command) (start : ℕ) (p : PartitionTable) (ps : List PartitionTable) (r d j : ℕ) → IncreasesFrom start (partition_ids (p ∷ ps)) → Summed command (p.id.0 + 1) ps r → p.id.0 ≡ start + d →
    bit_at (2 ^ d * (digit (is_concerned command p) + 2 * r)) j ≡ concerns_at command (partition_at (p ∷ ps) (start + j))
bit_here command start p ps r d j rise rest at = by_place (cases_lt j d)
  where
    by_place : j < d ⊎ d ≤ j → bit_at (2 ^ d * (digit (is_concerned command p) + 2 * r)) j ≡ concerns_at command (partition_at (p ∷ ps) (start + j))
    by_place (inl low) =
        let other : (p.id.0 == start + j) ≡ false = other_number p.id.0 (start + j) (inr (omega (arith, at, low))) in
        let none = none_at (p.id.0 + 1) (start + j) ps rise.1 (omega (arith, at, low)) in
        shifted_low d (digit (is_concerned command p) + 2 * r) j low ∙ rw (other, none) refl
    by_place (inr high) = bit_above command start p ps r d j (j - d) rest at (omega (arith, high))

pub summed : (command : Command) (start : ℕ) (ps : List PartitionTable) → IncreasesFrom start (partition_ids ps) → (shifted : ℕ) × Summed command start ps shifted
summed command start [] rise = (0, record { whole = grind (arith, common_steps); bits = bit_at-zero })
summed command start (p ∷ ps) rise =
    let rest = summed command (p.id.0 + 1) ps rise.1 in
    let d = p.id.0 - start in
    let t = is_concerned command p in
    let at : p.id.0 ≡ start + d = omega (arith, rise.0) in
    let whole : mask_of command (p ∷ ps) ≡ 2 ^ start * (2 ^ d * (digit t + 2 * rest.0)) =
    ap (λ n. n + mask_of command ps) (bit_is command p) ∙ (ap (λ n. digit t * 2 ^ p.id.0 + n) rest.1.whole ∙ joined t start d p.id.0 rest.0 at) in
    (2 ^ d * (digit t + 2 * rest.0), record { whole = whole; bits = λ j. bit_here command start p ps rest.0 d j rise rest.1 at })

pub bits_of_sum : (command : Command) (ps : List PartitionTable) (id : ℕ) → IncreasesFrom 0 (partition_ids ps) → bit_at (mask_of command ps) id ≡ concerns_at command (partition_at ps id)
bits_of_sum command ps id rise =
    let all = summed command 0 ps rise in
    let whole : mask_of command ps ≡ all.0 = all.1.whole ∙ grind (arith, common_steps) in
    ap (λ n. bit_at n id) whole ∙ (all.1.bits id ∙ ap (λ n. concerns_at command (partition_at ps n)) (omega arith))
