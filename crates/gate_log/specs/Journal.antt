-- A log on a disk: the records that its pair of areas stands for, and the calls of each operation.
use Rattle.std.specs.Prelude.{◌≡◌, ◌+◌, ℕ, List, [], ◌∷◌, length, Option, None, Some, Result, Ok, Err, ◌==◌, if◌then◌else◌}
use Rattle.disk_model.specs.declared.area.Area.{Area}
use Rattle.disk_model.specs.declared.area.Area.TheVariants.{Journal0}
use Rattle.disk_model.specs.declared.areas.Areas.{Areas}
use Rattle.disk_model.specs.Areas.{bytes_of}
use Rattle.disk_model.specs.Calls.{Told, reads, IsSettled}
use Rattle.gate_area.specs.declared.pair.Pair.TheVariants.{Journal}
use Rattle.gate_area.specs.Standing.{stands, other_of}
use Rattle.gate_log.specs.Records.{StandsFor, walk_of, end_of, base_of}

-- the damaged place of an area
abbrev pub in_area : {T : Type 0} → Area → Result T ℕ → Result T (Area × ℕ)
in_area area (Ok x) = Ok x
in_area area (Err at) = Err (area, at)

-- the records of the area that stands; a fresh pair has none
abbrev pub records_of : Areas → Result (Option (Area × ℕ)) (Area × ℕ) → Result (List (List ℕ)) (Area × ℕ)
records_of areas (Err spot) = Err spot
records_of areas (Ok None) = Ok []
records_of areas (Ok (Some (area, generation))) = in_area area (walk_of (bytes_of area areas))

-- the records that the areas of a journal stand for, or which place of which area is damaged
abbrev pub records_in : Areas → Result (List (List ℕ)) (Area × ℕ)
records_in areas = records_of areas (stands Journal areas)

-- a log as its callers see it: the area that stands, its generation, the place just after its closed gate, that
-- place after its first record, and the greatest length of an area
pub record Log : Type 0 where
  pub area : Area
  pub generation : ℕ
  pub end : ℕ
  pub base_end : ℕ
  pub limit : ℕ

-- the areas stand for these records, and the log knows where
pub record Holds (log : Log) (records : List (List ℕ)) (areas : Areas) : Type 0 where
  pub standing : stands Journal areas ≡ Ok (Some (log.area, log.generation))
  pub content : StandsFor records (bytes_of log.area areas)
  pub end : log.end ≡ end_of records
  pub base_end : log.base_end ≡ base_of records

-- the areas stand for some records, and the log knows where
abbrev pub IsLogOf : Log → Areas → Type 0
IsLogOf log areas = (records : List (List ℕ)) × Holds log records areas

-- the log with one record more
abbrev pub appended : Log → List ℕ → Log
appended log r = record log { end = log.end + (5 + length r); base_end = if log.base_end == 17 then log.end + (5 + length r) else log.base_end }

-- the log of an area with these records
abbrev pub log_of : Area → ℕ → ℕ → List (List ℕ) → Log
log_of area generation limit records = record { area = area; generation = generation; end = end_of records; base_end = base_of records; limit = limit }

-- the log with these records of the area that stands, or of the one that is begun where none does
abbrev pub log_at : ℕ → List (List ℕ) → Option (Area × ℕ) → Log
log_at limit records None = log_of Journal0 1 limit records
log_at limit records (Some (area, generation)) = log_of area generation limit records

-- the log that an opening gives, by what stands
abbrev pub IsFound : ℕ → List (List ℕ) → Result (Option (Area × ℕ)) (Area × ℕ) → Log → Type 0
IsFound limit records (Ok standing) log = log ≡ log_at limit records standing
IsFound limit records (Err spot) log = ⊥

-- the log of the other area with one record
abbrev pub compacted : Log → List ℕ → Log
compacted log r = log_of (other_of log.area) (log.generation + 1) log.limit (r ∷ [])

-- nothing is pending on a disk, and it holds the log
unfoldable pub IsReady : Log → Told → Type 0
IsReady log t = IsSettled t × IsLogOf log (reads t)
