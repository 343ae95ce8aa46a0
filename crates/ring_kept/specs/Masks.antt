-- A mask of bits as a group of members.
use Rattle.std.specs.Prelude.{ℕ, ◌^◌, ◌==◌, Bool, not, bit_and}

-- whether the mask has the bit of a member
abbrev pub in_mask : ℕ → ℕ → Bool
in_mask mask k = not (bit_and mask (2 ^ k) == 0)
