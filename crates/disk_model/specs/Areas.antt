-- The four areas by their names.
use Rattle.std.specs.Prelude.{ℕ, List, Bool, ◌==◌}
use Rattle.disk_model.specs.declared.area.Area.{Area}
use Rattle.disk_model.specs.declared.area.Area.TheVariants.{Journal0, Journal1, Check2, Check3}
use Rattle.disk_model.specs.declared.areas.Areas.{Areas}

abbrev pub number_of : Area → ℕ
number_of Journal0 = 0
number_of Journal1 = 1
number_of Check2 = 2
number_of Check3 = 3

abbrev pub same : Area → Area → Bool
same a b = number_of a == number_of b

-- the bytes of an area
abbrev pub bytes_of : Area → Areas → List ℕ
bytes_of Journal0 areas = areas.journal0
bytes_of Journal1 areas = areas.journal1
bytes_of Check2 areas = areas.check2
bytes_of Check3 areas = areas.check3

-- the areas with other bytes in one of them
abbrev pub with_bytes : Area → List ℕ → Areas → Areas
with_bytes Journal0 bytes areas = record areas { journal0 = bytes }
with_bytes Journal1 bytes areas = record areas { journal1 = bytes }
with_bytes Check2 bytes areas = record areas { check2 = bytes }
with_bytes Check3 bytes areas = record areas { check3 = bytes }
