-- What a crash leaves at each moment of an operation on a log, and why one is refused.
use Rattle.std.specs.Prelude.{◌≡◌, ◌⊎◌, ◌≤◌, MatchResult, IsErrOf, ℕ, List, Option, Some, Result, Ok, Err, OnOk, [], ◌∷◌}
use Rattle.disk_model.specs.declared.area.Area.{Area}
use Rattle.disk_model.specs.declared.area.Refused.{Refused}
use Rattle.disk_model.specs.declared.area.Refused.TheVariants.{Failed, Memory as Wanting}
use Rattle.disk_model.specs.declared.areas.Areas.{Areas}
use Rattle.disk_model.specs.declared.call.Call.TheVariants.{Sync}
use Rattle.disk_model.specs.Calls.{Told, LeavesOnly, and_then}
use Rattle.disk_model.specs.Causes.{Rose}
use Rattle.gate_area.specs.declared.pair.SurveyFault.{SurveyFault}
use Rattle.gate_area.specs.declared.pair.SurveyFault.TheVariants.{Disk as NoDisk, Damaged as Spoilt, Memory as NoMemory}
use Rattle.gate_log.specs.declared.fault.LogFault.{LogFault}
use Rattle.gate_log.specs.declared.fault.LogFault.TheVariants.{Disk, Damaged, Full, Memory}
use Rattle.gate_log.specs.Journal.{records_in}

-- the areas of the checkpoints are as they were
pub record ChecksStay (before image : Areas) : Type 0 where
  pub check2 : image.check2 ≡ before.check2
  pub check3 : image.check3 ≡ before.check3

-- the areas stand for the old records or for the new ones
pub record OldOrNew (old new : List (List ℕ)) (before image : Areas) : Type 0 where
  pub checks : ChecksStay before image
  pub records : (records_in image ≡ Ok old) ⊎ (records_in image ≡ Ok new)

-- the areas stand for what they stood for
pub record SameRecords (before image : Areas) : Type 0 where
  pub checks : ChecksStay before image
  pub records : records_in image ≡ records_in before

-- nothing was done yet, or a sync was and since then a crash leaves only images of this kind
abbrev pub SinceSync : Told → Option Told → (Areas → Type 0) → Type 0
SinceSync t now P = (now ≡ Some t) ⊎ LeavesOnly (and_then t (Sync ∷ [])) now P

abbrev pub refused_as : Refused → LogFault
refused_as Failed = Disk
refused_as Wanting = Memory

abbrev pub surveyed_as : SurveyFault → LogFault
surveyed_as NoDisk = Disk
surveyed_as (Spoilt area at) = Damaged area at
surveyed_as NoMemory = Memory

-- `Memory` comes only where the count of wants rose: the call takes no memory of its own
pub record LogWants {T : Type 0} (before now : ℕ) (result : Result T LogFault) : Type 0 where
  pub later : before ≤ now
  pub memory : IsErrOf result Memory → Rose before now
  pub disk : IsErrOf result Disk → now ≡ before
  pub full : (len : ℕ) → IsErrOf result (Full len) → now ≡ before
  pub kept : OnOk result (now ≡ before)

-- the disk or memory was wanting
abbrev pub IsWant : LogFault → Type 0
IsWant fault = (fault ≡ Disk) ⊎ (fault ≡ Memory)

-- an opened log has these records, or a place is damaged, unless a call of the disk or memory was refused
abbrev pub Finds : {T : Type 0} → (T → List (List ℕ)) → Result (List (List ℕ)) (Area × ℕ) → Result T LogFault → Type 0
Finds listed (Ok records) result = MatchResult result (λ found. listed found ≡ records) IsWant
Finds listed (Err (area, at)) result = MatchResult result (λ found. ⊥) (λ fault. (fault ≡ Damaged area at) ⊎ IsWant fault)
