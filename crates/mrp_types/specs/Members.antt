-- Sets of node numbers.
use Rattle.std.specs.Prelude.{ℕ, Bool, false, List, slice_index_or}

-- whether a node is one of them: the list says so of each number, and past its end there is none
abbrev pub is_member : List Bool → ℕ → Bool
is_member members node = slice_index_or members node false
