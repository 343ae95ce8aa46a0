-- The operations of a disk that each call on an area or a pair makes, in their order.
use Rattle.std.specs.Prelude.{ℕ, ◌+◌, ◌/◌, List, [], ◌∷◌, ◌++◌, length, map, replicate, Result, Ok, Err}
use Rattle.disk_model.specs.declared.area.Area.{Area}
use Rattle.disk_model.specs.Calls.{Told, area_bytes}
use Rattle.disk_model.specs.Running.{Op, Asks, Reads, Does, Ending, Passed, Stopped, Wanted}
use Rattle.gate_area.specs.declared.pair.SurveyFault.{SurveyFault}
use Rattle.gate_area.specs.declared.pair.SurveyFault.TheVariants.{Disk, Damaged, Memory}
use Rattle.gate_area.specs.Gate.{retire_calls, gate_calls}

-- of each area of a pair the length is asked, and then 17 bytes are read
abbrev pub survey_ops : List Op
survey_ops = Asks ∷ Reads ∷ Asks ∷ Reads ∷ []

-- how the operations of a survey have ended: a damaged place is found where all have passed
abbrev pub spoilt_ending : SurveyFault → Ending
spoilt_ending Disk = Stopped
spoilt_ending (Damaged area at) = Passed
spoilt_ending Memory = Wanted

abbrev pub survey_ending : {T : Type 0} → Result T SurveyFault → Ending
survey_ending (Ok _) = Passed
survey_ending (Err fault) = spoilt_ending fault

-- the length is asked before it is cut
abbrev pub retire_ops : Area → Told → List Op
retire_ops area t = Asks ∷ map Does (retire_calls area t)

abbrev pub gate_ops : Area → ℕ → List ℕ → List Op
gate_ops area gate body = map Does (gate_calls area gate body)

-- an area is retired and founded with these bytes behind its gate
abbrev pub renew_ops : Area → List ℕ → Told → List Op
renew_ops area body t = retire_ops area t ++ gate_ops area 0 body

-- a file is read in pieces of 65,536 bytes until one gives fewer
abbrev pub readings : List ℕ → List Op
readings file = replicate (length file / 65536 + 1) Reads

abbrev pub area_readings : Area → Told → List Op
area_readings area t = readings (area_bytes area t)
