-- How many members a mask has, and whose bits one with another bit has.
use Rattle.std.proofs.Common.{◌≡◌, ◌⊎◌, inl, inr, ℕ, zero, suc, ◌+◌, ◌*◌, ◌/◌, ◌%◌, ◌^◌, ◌<◌, ◌≤◌, Bool, true, false, cond, nat_eq, not, refl, sym, ◌∙◌, ap, arith}
use Rattle.std.specs.Prelude.{bit_or, count_ones, max, ◌==◌}
use Rattle.std.specs.Int.{bit_at}
use Rattle.std.proofs.lemmas.Bool.{cases_eq}
use Rattle.std.proofs.lemmas.Bool.Decides.{nat_tests}
use Rattle.std.proofs.lemmas.Nat.{pow_pos, ones_le_self}
use Rattle.std.proofs.lemmas.Nat.Bits.{and_pow, bit_at-suc, bit_at-lt, bit_at_or, bit_at-pow_other, bit_at-zero, bit_at_lowest, same_from_bits}
use lib.Count.{ones_step}
use Rattle.quorums.specs.Groups.{count}
use Rattle.ring_kept.specs.Masks.{in_mask}

bit_test : (b p : ℕ) → b < 2 → 0 < p → not (b * p == 0) ≡ not (nat_eq b 0)
bit_test zero p small pos = let none : 0 * p ≡ 0 = omega arith in ap (λ x. not (x == 0)) none
bit_test (suc b) p small pos =
    let one : suc b ≡ 1 = omega arith in
    let e : nat_eq p 0 ≡ false = grind (arith, nat_tests) in
    let m : 1 * p ≡ p = omega arith in
    ap (λ x. not (x * p == 0)) one ∙ ap (λ x. not (x == 0)) m ∙ rw e refl ∙ ap (λ x. not (nat_eq x 0)) (sym one)

pub mask_bit : (mask k : ℕ) → in_mask mask k ≡ not (nat_eq (bit_at mask k) 0)
mask_bit mask k = ap (λ x. not (x == 0)) (and_pow mask k) ∙ bit_test (bit_at mask k) (2 ^ k) (bit_at-lt mask k) (pow_pos k)

mask_shift : (mask k : ℕ) → in_mask mask (suc k) ≡ in_mask (mask / 2) k
mask_shift mask k = mask_bit mask (suc k) ∙ ap (λ x. not (nat_eq x 0)) (bit_at-suc mask k) ∙ sym (mask_bit (mask / 2) k)

-- ---- counting members from the lowest

pub count_same : (f g : ℕ → Bool) (n : ℕ) → ((k : ℕ) → f k ≡ g k) → count f n ≡ count g n
count_same f g zero same = refl
count_same f g (suc n) same = ap (λ b. cond b 1 0 + count f n) (same n) ∙ ap (λ x. cond (g n) 1 0 + x) (count_same f g n same)

pub count_lowest : (f : ℕ → Bool) (n : ℕ) → count f (suc n) ≡ cond (f 0) 1 0 + count (λ k. f (suc k)) n
count_lowest f zero = refl
count_lowest f (suc n) = let more = count_lowest f n in omega arith

no_bits : (mask : ℕ) → ((k : ℕ) → in_mask mask k ≡ true → ⊥) → mask ≡ 0
no_bits mask none = same_from_bits mask 0 (λ k. bit_zero k (bit_at mask k) refl ∙ sym (bit_at-zero k))
  where
    bit_zero : (k b : ℕ) → bit_at mask k ≡ b → bit_at mask k ≡ 0
    bit_zero k zero e = e
    bit_zero k (suc b) e =
        let some : nat_eq (suc b) 0 ≡ false = grind (arith, nat_tests) in
        absurd (none k (mask_bit mask k ∙ ap (λ x. not (nat_eq x 0)) e ∙ ap (λ (x : Bool). not x) some))

low_bit : (mask : ℕ) → mask % 2 ≡ cond (in_mask mask 0) 1 0
low_bit mask = sym (bit_at_lowest mask) ∙ value (bit_at mask 0) (bit_at-lt mask 0) ∙ ap (λ b. cond b 1 0) (sym (mask_bit mask 0))
  where
    value : (b : ℕ) → b < 2 → b ≡ cond (not (nat_eq b 0)) 1 0
    value zero small = refl
    value (suc b) small = let e : nat_eq (suc b) 0 ≡ false = grind (arith, nat_tests) in rw e (omega arith)

-- a mask of members below n has as many members as ones
pub mask_count : (n mask : ℕ) → ((k : ℕ) → in_mask mask k ≡ true → k < n) → count_ones mask ≤ count (in_mask mask) n
mask_count zero mask below =
    let none : mask ≡ 0 = no_bits mask (λ k h. let lt = below k h in omega arith) in
    let few = ones_le_self mask in
    omega arith
mask_count (suc n) mask below =
    let half = mask_count n (mask / 2) (λ k h. let lt = below (suc k) (mask_shift mask k ∙ h) in omega arith) in
    let step = ones_step mask in
    let low = low_bit mask in
    let lowest = count_lowest (in_mask mask) n in
    let same = count_same (λ k. in_mask mask (suc k)) (in_mask (mask / 2)) n (mask_shift mask) in
    omega arith

-- the bits of a mask with one bit more
pub mask_more : (mask p k : ℕ) → in_mask (bit_or mask (2 ^ p)) k ≡ true → (k ≡ p) ⊎ (in_mask mask k ≡ true)
mask_more mask p k h = elim (cases_eq k p) [
  | inl same ↦ inl same
  | inr ne ↦
      let other : bit_at (2 ^ p) k ≡ 0 = bit_at-pow_other p k ne in
      let bits : bit_at (bit_or mask (2 ^ p)) k ≡ bit_at mask k = bit_at_or mask (2 ^ p) k ∙ ap (λ x. max (bit_at mask k) x) other ∙ omega arith in
      inr (mask_bit mask k ∙ ap (λ x. not (nat_eq x 0)) (sym bits) ∙ sym (mask_bit (bit_or mask (2 ^ p)) k) ∙ h)
]

-- a mask of one bit
pub own_bit : (p k : ℕ) → in_mask (2 ^ p) k ≡ true → k ≡ p
own_bit p k h = elim (cases_eq k p) [
  | inl same ↦ same
  | inr ne ↦
      let no : in_mask (2 ^ p) k ≡ false = mask_bit (2 ^ p) k ∙ ap (λ x. not (nat_eq x 0)) (bit_at-pow_other p k ne) in
      absurd (cc)
]
