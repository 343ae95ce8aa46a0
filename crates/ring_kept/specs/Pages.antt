-- Where the page of a promise ends.
use Rattle.std.specs.Prelude.{ℕ, List, [], ◌∷◌}
use Rattle.mrp_types.specs.declared.id.TheConstants.{END}
use Rattle.mrp_types.specs.declared.voted.Voted.{Voted}

-- the first instance of the ranges that are left out, or the end of all instances
abbrev pub front_end : List Voted → ℕ
front_end [] = END
front_end (range ∷ ranges) = range.lo
