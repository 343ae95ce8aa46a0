-- The sizes of the rounds of all rings.
use Rattle.std.specs.Prelude.{ℕ, ◌≤◌, List, slice_index_or}

-- how many instances of a ring a round holds, by the ring's number; 1 past the end of the list
abbrev pub size_of : List ℕ → ℕ → ℕ
size_of sizes ring = slice_index_or sizes ring 1

-- each is 1 to 1,024
abbrev pub AreSizes : List ℕ → Type 0
AreSizes sizes = (ring : ℕ) → (1 ≤ size_of sizes ring) × (size_of sizes ring ≤ 1024)
