-- The operations of a disk that each call on a log makes, in their order.
use Rattle.std.specs.Prelude.{ℕ, ◌+◌, ◌-◌, nat_lt, List, [], ◌∷◌, ◌++◌, length, Option, None, Some, Result, Ok, Err, if◌then◌else◌}
use Rattle.disk_model.specs.declared.area.Area.{Area}
use Rattle.disk_model.specs.declared.area.Area.TheVariants.{Journal0}
use Rattle.disk_model.specs.declared.call.Call.TheVariants.{Sync}
use Rattle.disk_model.specs.Calls.{Told, reads}
use Rattle.disk_model.specs.Running.{Op, Does, Ending, Passed, Stopped, Wanted}
use Rattle.gate_area.specs.declared.pair.Pair.TheVariants.{Journal}
use Rattle.gate_area.specs.Operations.{survey_ops, gate_ops, renew_ops, area_readings}
use Rattle.gate_area.specs.Standing.{stands, other_of}
use Rattle.gate_log.specs.declared.fault.LogFault.{LogFault}
use Rattle.gate_log.specs.declared.fault.LogFault.TheVariants.{Disk, Damaged, Full, Memory}
use Rattle.gate_log.specs.Journal.{Log}
use Rattle.gate_log.specs.Records.{behind_gate, area_body}

-- how the operations of a call on a log have ended: it finds a damaged place, or no room, where all have passed
abbrev pub fault_ending : LogFault → Ending
fault_ending Disk = Stopped
fault_ending (Damaged area at) = Passed
fault_ending (Full len) = Passed
fault_ending Memory = Wanted

abbrev pub log_ending : {T : Type 0} → Result T LogFault → Ending
log_ending (Ok _) = Passed
log_ending (Err fault) = fault_ending fault

-- none where the area would be too long
abbrev pub append_ops : Log → List ℕ → List Op
append_ops log r = if nat_lt log.limit (log.end + (5 + length r)) then [] else gate_ops log.area (log.end - 1) (behind_gate r)

abbrev pub compact_ops : Log → List ℕ → Told → List Op
compact_ops log r t = if nat_lt log.limit (22 + length r) then [] else renew_ops (other_of log.area) (area_body (log.generation + 1) (r ∷ [])) t

-- by what a survey has found: a fresh pair gets a journal without records, and an area that stands is read
abbrev pub standing_ops : Result (Option (Area × ℕ)) (Area × ℕ) → Told → List Op
standing_ops (Ok None) t = renew_ops Journal0 (area_body 1 []) t
standing_ops (Ok (Some (area, generation))) t = area_readings area t
standing_ops (Err spot) t = []

abbrev pub find_ops : Told → List Op
find_ops t = survey_ops ++ standing_ops (stands Journal (reads t)) t

-- after a sync
abbrev pub open_ops : Told → List Op
open_ops t = Does Sync ∷ find_ops t
