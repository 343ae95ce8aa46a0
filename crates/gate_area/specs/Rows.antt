-- A fresh journal that is begun on an empty disk, and areas of a few bytes, for the worked rows.
use Rattle.std.specs.Prelude.{List, [], ◌∷◌, ◌++◌, ℕ, map, take, Option, None, Some, Result, Ok}
use Rattle.disk_model.specs.declared.area.Area.{Area}
use Rattle.disk_model.specs.declared.area.Area.TheVariants.{Journal0}
use Rattle.disk_model.specs.declared.area.Image.{Image}
use Rattle.disk_model.specs.declared.call.Call.{Call}
use Rattle.disk_model.specs.Calls.{Told, begun, and_then}
use Rattle.disk_model.specs.Crash.{left_by}
use Rattle.gate_area.specs.declared.pair.Pair.TheVariants.{Journal}
use Rattle.gate_area.specs.Gate.{retire_calls, gate_calls}
use Rattle.gate_area.specs.Standing.{stands}

-- a disk with these bytes in its first area alone
abbrev pub with_first : List ℕ → Told
with_first bytes = begun (record { journal0 = bytes; journal1 = []; check2 = []; check3 = [] })

abbrev pub empty : Told
empty = with_first []

-- one whose first area was stopped while it was founded
abbrev pub stopped : Told
stopped = with_first (0 ∷ 1 ∷ 1 ∷ 1 ∷ 1 ∷ 1 ∷ 1 ∷ 1 ∷ 1 ∷ 1 ∷ 1 ∷ 1 ∷ 1 ∷ 1 ∷ 1 ∷ 1 ∷ 1 ∷ [])

-- the magic, version 1, generation 1 and a closed gate, behind the gate of the area
abbrev pub fresh_body : List ℕ
fresh_body = 0x4d ∷ 0x52 ∷ 0x4a ∷ 0 ∷ 0 ∷ 0 ∷ 1 ∷ 0 ∷ 0 ∷ 0 ∷ 0 ∷ 0 ∷ 0 ∷ 0 ∷ 1 ∷ 0 ∷ []

-- the first area is retired and then founded with that body
abbrev pub begins : Told → List Call
begins t = retire_calls Journal0 t ++ gate_calls Journal0 0 fresh_body

-- what the pair stands for where a crash leaves this image after so many of these calls, from none to all
abbrev pub at_each : Image → List (Result (Option (Area × ℕ)) (Area × ℕ))
at_each image = map (λ k. stands Journal (left_by image (and_then empty (take k (begins empty))))) (0 ∷ 1 ∷ 2 ∷ 3 ∷ 4 ∷ 5 ∷ 6 ∷ 7 ∷ 8 ∷ [])

-- the first area counts only after the last sync
abbrev pub opens_at_the_sync : List (Result (Option (Area × ℕ)) (Area × ℕ))
opens_at_the_sync = Ok None ∷ Ok None ∷ Ok None ∷ Ok None ∷ Ok None ∷ Ok None ∷ Ok None ∷ Ok None ∷ Ok (Some (Journal0, 1)) ∷ []

-- it counts once its gate is written
abbrev pub opens_at_the_gate : List (Result (Option (Area × ℕ)) (Area × ℕ))
opens_at_the_gate = Ok None ∷ Ok None ∷ Ok None ∷ Ok None ∷ Ok None ∷ Ok None ∷ Ok None ∷ Ok (Some (Journal0, 1)) ∷ Ok (Some (Journal0, 1)) ∷ []

-- an area with this letter of its magic, a gate, a version and a generation
abbrev pub an_area : ℕ → ℕ → ℕ → ℕ → List ℕ
an_area letter gate version generation =
    gate ∷ 0x4d ∷ 0x52 ∷ letter ∷ 0 ∷ 0 ∷ 0 ∷ version ∷ 0 ∷ 0 ∷ 0 ∷ 0 ∷ 0 ∷ 0 ∷ 0 ∷ generation ∷ 9 ∷ 9 ∷ []
