-- The longest front of a list that has room, of entries of any kind: pages of frames and of replies, and fresh batches.
use Rattle.std.specs.Prelude.{◌≡◌, ◌≤◌, ◌<◌, ℕ, ◌+◌, ◌-◌, nat_le, if◌then◌else◌, List, [], ◌∷◌, ◌++◌, length, drop, sum_by}

-- the longest front of the entries that takes at most so much room
abbrev pub front_within : {T : Type 0} → (T → ℕ) → ℕ → List T → List T
front_within size room [] = []
front_within size room (x ∷ xs) = if nat_le (size x) room then x ∷ front_within size (room - size x) xs else []

-- what a front leaves out
abbrev pub left_out : {T : Type 0} → List T → List T → List T
left_out front all = drop (length front) all

-- A front of the entries that takes at most so much room; with the first entry that is left out it would take too much.
pub record IsLongestFront {T : Type 0} (size : T → ℕ) (room : ℕ) (all front : List T) : Type 0 where
  pub whole : front ++ left_out front all ≡ all
  pub fits : sum_by size front ≤ room
  pub more : (x : T) (xs : List T) → left_out front all ≡ x ∷ xs → room < sum_by size front + size x
