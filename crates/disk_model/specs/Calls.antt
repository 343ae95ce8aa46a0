-- What a disk tells: the areas at its start and the calls that took effect since. These determine what a read
-- gives, and which images a crash may leave, now and at each earlier moment.
use Rattle.std.specs.Prelude.{◌≡◌, ℕ, Bool, true, List, [], ◌∷◌, ◌++◌, Option, None, Some, take, if◌then◌else◌}
use Rattle.disk_model.specs.declared.area.Area.{Area}
use Rattle.disk_model.specs.declared.area.Area.TheVariants.{Journal0, Journal1, Check2, Check3}
use Rattle.disk_model.specs.declared.areas.Areas.{Areas}
use Rattle.disk_model.specs.declared.call.Call.{Call}
use Rattle.disk_model.specs.declared.call.Call.TheVariants.{Write, Cut, Sync}
use Rattle.disk_model.specs.Areas.{same, bytes_of}
use Rattle.disk_model.specs.Steps.{Step, Put, Shrink, Flush, Kept, after, steps_on, CanLeave}

pub record Told : Type 0 where
  pub start : Areas
  pub calls : List Call

-- a disk that begins with these areas
abbrev pub begun : Areas → Told
begun areas = record { start = areas; calls = [] }

-- with further calls
abbrev pub and_then : Told → List Call → Told
and_then t calls = record { start = t.start; calls = t.calls ++ calls }

-- the same of a disk that may not tell
abbrev pub followed : Option Told → List Call → Option Told
followed None calls = None
followed (Some t) calls = Some (and_then t calls)

-- what the calls do to one area: each sync concerns them all
abbrev pub own : Area → List Call → List Step
own area [] = []
own area (Write b at bytes ∷ calls) = if same area b then Put at bytes ∷ own area calls else own area calls
own area (Cut b len ∷ calls) = if same area b then Shrink len ∷ own area calls else own area calls
own area (Sync ∷ calls) = Flush ∷ own area calls

-- the calls that do these steps to an area
abbrev pub on : Area → List Step → List Call
on area [] = []
on area (Put at bytes ∷ steps) = Write area at bytes ∷ on area steps
on area (Shrink len ∷ steps) = Cut area len ∷ on area steps
on area (Flush ∷ steps) = Sync ∷ on area steps

-- what a read of an area gives
abbrev pub area_bytes : Area → Told → List ℕ
area_bytes area t = after (bytes_of area t.start) (own area t.calls)

-- what reads of the four areas give
abbrev pub reads : Told → Areas
reads t = record {
  journal0 = area_bytes Journal0 t;
  journal1 = area_bytes Journal1 t;
  check2 = area_bytes Check2 t;
  check3 = area_bytes Check3 t;
}

-- what is known of an area: its bytes at the last sync, and what was done to it since
abbrev pub kept : Area → Told → Kept
kept area t = steps_on (record { bytes = bytes_of area t.start; pending = [] }) (own area t.calls)

-- a crash may leave this image: each area is one of its own images
abbrev pub IsImage : Told → Areas → Type 0
IsImage t image = (area : Area) → CanLeave (kept area t) (bytes_of area image)

-- nothing was written or cut since the last sync
abbrev pub IsSettled : Told → Type 0
IsSettled t = (area : Area) → (kept area t).pending ≡ []

-- an honest disk tells this
pub record Tells (telling : Option Told) (honesty : Bool) (t : Told) : Type 0 where
  pub honest : honesty ≡ true
  pub told : telling ≡ Some t

-- what a disk tells that made the calls which follow from what it told
abbrev pub made_by : (Told → List Call) → Option Told → Option Told
made_by calls None = None
made_by calls (Some t) = Some (and_then t (calls t))

-- an honest disk made these calls
abbrev pub Makes : Bool → Option Told → Option Told → (Told → List Call) → Type 0
Makes honesty old now calls = honesty ≡ true → now ≡ made_by calls old

-- an honest disk made the first of these calls, and no other
abbrev pub MakesFirst : Bool → Option Told → Option Told → (Told → List Call) → Type 0
MakesFirst honesty old now calls = (j : ℕ) × Makes honesty old now (λ t. take j (calls t))

-- At each moment since a disk told t, a crash leaves only images of this kind.
pub record LeavesOnly (t : Told) (now : Option Told) (P : Areas → Type 0) : Type 0 where
  pub made : List Call
  pub told : now ≡ Some (and_then t made)
  pub each : (i : ℕ) (image : Areas) → IsImage (and_then t (take i made)) image → P image
