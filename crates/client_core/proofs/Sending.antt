-- What is left of ticks and tries says when and where a command is sent.
use Rattle.std.proofs.Common.{arith, ◌≡◌, ℕ, ◌+◌, ◌%◌, ◌<◌}
use Rattle.std.proofs.lemmas.Grind.{common_steps}

-- one more of a count, by what is left of it
pub one_more : (n m left : ℕ) → 0 < m → n % m ≡ left → left + 1 < m → (n + 1) % m ≡ left + 1
one_more n m left some is low = grind (arith, common_steps)

pub full : (n m left : ℕ) → 0 < m → n % m ≡ left → left + 1 ≡ m → (n + 1) % m ≡ 0
full n m left some is whole = grind (arith, common_steps)
