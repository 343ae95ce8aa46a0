-- The place of a partition among those that replied.
use Rattle.std.specs.Prelude.{ℕ, suc, nat_lt, if◌then◌else◌, List, [], ◌∷◌}
use Rattle.mrp_types.specs.declared.id.PartitionId.{PartitionId}

-- how many of these come before the first one that is greater
abbrev pub place_in : ℕ → List PartitionId → ℕ
place_in id [] = 0
place_in id (x ∷ xs) = if nat_lt id x.0 then 0 else suc (place_in id xs)
