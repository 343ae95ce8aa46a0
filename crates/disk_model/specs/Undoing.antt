-- How the calls of a disk in memory are taken back.
use Rattle.std.specs.Prelude.{ℕ, List, [], ◌∷◌, length, take, drop, if◌then◌else◌}
use Rattle.disk_model.specs.declared.area.Area.{Area}
use Rattle.disk_model.specs.declared.areas.Areas.{Areas}
use Rattle.disk_model.specs.declared.undo.Undo.{Undo}
use Rattle.disk_model.specs.Areas.{same, bytes_of, with_bytes}
use Rattle.disk_model.specs.Steps.{written}

-- the bytes that were overwritten or cut off are put back, and the file has the length that it had
abbrev pub put_back : Undo → List ℕ → List ℕ
put_back u file = take u.len (written u.at u.over file)

-- one call was taken back
abbrev pub undone : Undo → Areas → Areas
undone u areas = with_bytes u.area (put_back u (bytes_of u.area areas)) areas

-- what that makes of an area
abbrev pub undone_in : Area → Undo → List ℕ → List ℕ
undone_in area u file = if same u.area area then put_back u file else file

-- all were taken back, the last one first
abbrev pub all_undone : List Undo → Areas → Areas
all_undone [] areas = areas
all_undone (u ∷ us) areas = undone u (all_undone us areas)

-- of a write of so many bytes
abbrev pub undo_of_count : Area → ℕ → ℕ → Areas → Undo
undo_of_count area at count areas = record { area = area; at = at; over = take count (drop at (bytes_of area areas)); len = length (bytes_of area areas) }

abbrev pub undo_of_write : Area → ℕ → List ℕ → Areas → Undo
undo_of_write area at bytes areas = undo_of_count area at (length bytes) areas

-- of a cut
abbrev pub undo_of_cut : Area → ℕ → Areas → Undo
undo_of_cut area len areas = record { area = area; at = len; over = drop len (bytes_of area areas); len = length (bytes_of area areas) }
