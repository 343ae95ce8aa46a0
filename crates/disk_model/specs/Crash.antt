-- Which of its images a crash of a disk in memory leaves.
use Rattle.std.specs.Prelude.{◌≡◌, ◌⊎◌, ℕ, ◌+◌, ◌≤◌, take, drop, Bool, false, ◌&&◌, ◌||◌, nat_le, nat_lt, List, [], ◌∷◌, ◌++◌, length, zero, suc, slice_index_or, if◌then◌else◌}
use Rattle.std.specs.List.{list_any}
use Rattle.disk_model.specs.declared.area.Image.{Image}
use Rattle.disk_model.specs.declared.area.Image.TheVariants.{Old, New, Fill}
use Rattle.disk_model.specs.declared.area.Area.TheVariants.{Journal0, Journal1, Check2, Check3}
use Rattle.disk_model.specs.declared.areas.Areas.{Areas}
use Rattle.disk_model.specs.declared.call.Call.{Call}
use Rattle.disk_model.specs.declared.call.Call.TheVariants.{Write, Cut, Sync}
use Rattle.disk_model.specs.Steps.{Step, Put, Shrink, Flush, Kept, reading, least, most}
use Rattle.disk_model.specs.Calls.{Told, kept}

-- the step writes at this position
abbrev pub covers : ℕ → Step → Bool
covers i (Put at bytes) = nat_le at i && nat_lt i (at + length bytes)
covers i (Shrink len) = false
covers i Flush = false

-- the byte at this position was written since the last sync, or stands past the least length since then
abbrev pub is_dirty : Kept → ℕ → Bool
is_dirty k i = nat_le (least k.bytes k.pending) i || list_any (covers i) k.pending

-- how many dirty bytes stand before this position
abbrev pub dirty_before : Kept → ℕ → ℕ
dirty_before k zero = 0
dirty_before k (suc i) = dirty_before k i + (if is_dirty k i then 1 else 0)

-- the byte that a filled image has: of the dirty ones only the first `keep` are what a read gives
abbrev pub filled_byte : ℕ → ℕ → Kept → ℕ → ℕ
filled_byte keep byte k i = if is_dirty k i && nat_le keep (dirty_before k i) then byte else slice_index_or (reading k) i byte

-- the bytes below a position
abbrev pub filled_below : ℕ → ℕ → Kept → ℕ → List ℕ
filled_below keep byte k zero = []
filled_below keep byte k (suc i) = filled_below keep byte k i ++ filled_byte keep byte k i ∷ []

-- the image of one area
abbrev pub left_of : Image → Kept → List ℕ
left_of Old k = k.bytes
left_of New k = reading k
left_of (Fill keep byte) k = filled_below keep byte k (most k.bytes k.pending)

-- the image of the disk
abbrev pub left_by : Image → Told → Areas
left_by image t = record {
  journal0 = left_of image (kept Journal0 t);
  journal1 = left_of image (kept Journal1 t);
  check2 = left_of image (kept Check2 t);
  check3 = left_of image (kept Check3 t);
}

-- no sync is among these calls
abbrev pub NoSync : List Call → Type 0
NoSync [] = Unit {0}
NoSync (Write area at bytes ∷ calls) = NoSync calls
NoSync (Cut area len ∷ calls) = NoSync calls
NoSync (Sync ∷ calls) = ⊥

-- the first n of these calls end with the last sync, or there is none and n is 0
pub record IsLastSync (calls : List Call) (n : ℕ) : Type 0 where
  pub within : n ≤ length calls
  pub sync : (n ≡ 0) ⊎ ((front : List Call) × (take n calls ≡ front ++ Sync ∷ []))
  pub none_since : NoSync (drop n calls)
