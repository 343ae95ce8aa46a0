-- What tests and cuts say, for the proofs of all crates.
use Rattle.std.proofs.Common.{arith, ◌≡◌, ◌<◌, ◌≤◌, ℕ, ◌-◌, List, length, take, drop, Some, refl, nat_lt, ◌&&◌, Bool, true, false}
use Rattle.std.proofs.lemmas.Grind.{common_steps}

-- two tests that both hold
pub both : (a b : Bool) → (a && b) ≡ true → (a ≡ true) × (b ≡ true)
both true b h = (refl, h)
both false b h = absurd (grind arith)

-- values of equal options are equal
pub some_is : {A : Type 0} (x y : A) → Some x ≡ Some y → x ≡ y
some_is x y h = cc

pub below : (n limit : ℕ) → nat_lt n limit ≡ true → n < limit
below n limit test = grind arith

pub not_above : (n limit : ℕ) → n ≤ limit → nat_lt limit n ≡ false
not_above n limit most = grind arith

pub at_most : (n limit : ℕ) → nat_lt limit n ≡ false → n ≤ limit
at_most n limit test = grind arith

-- the rest of a list, cut at its own length
pub all_of_rest : (d : ℕ) (bytes : List ℕ) → take (length bytes - d) (drop d bytes) ≡ drop d bytes
all_of_rest d bytes = grind (arith, common_steps)
