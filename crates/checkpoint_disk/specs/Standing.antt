-- What an opening answers, and what it asks of a disk.
use Rattle.std.specs.Prelude.{◌≡◌, ◌⊎◌, MatchResult, ℕ, List, [], ◌++◌, drop, Option, None, Some, Result, Ok, Err}
use Rattle.mrp_types.specs.declared.id.RingId.{RingId}
use Rattle.disk_model.specs.declared.area.Area.{Area}
use Rattle.disk_model.specs.Calls.{Told, reads}
use Rattle.disk_model.specs.Running.{Op}
use Rattle.command_codec.specs.declared.fault.CodecFault.{CodecFault}
use Rattle.command_codec.specs.declared.fault.CodecFault.TheVariants.{Short, BadKind, BadField, TooLong, Left, Memory as NoRoom}
use Rattle.gate_area.specs.declared.pair.Pair.TheVariants.{Check}
use Rattle.gate_area.specs.declared.pair.SurveyFault.{SurveyFault}
use Rattle.gate_area.specs.declared.pair.SurveyFault.TheVariants.{Disk, Damaged, Memory}
use Rattle.gate_area.specs.Operations.{survey_ops, area_readings}
use Rattle.gate_area.specs.Standing.{stands}
use Rattle.plain_model.specs.StateBytes.{fault_position}
use Rattle.checkpoint.specs.Checkpoints.{Checkpoint, Checkpoints, PartAnswer, Part, Gone, Unknown}
use Rattle.checkpoint_disk.specs.declared.reading.Contents.{Contents}
use Rattle.checkpoint_disk.specs.declared.part.PartAnswer.{PartAnswer as Answer}
use Rattle.checkpoint_disk.specs.declared.part.PartAnswer.TheVariants.{Part as IsPart, Gone as IsGone, Unknown as IsUnknown}

abbrev pub shown_contents : Contents → Checkpoint
shown_contents c = record { tuple = c.tuple; state = c.state }

-- the checkpoint of this tuple whose state goes from a position on to the end
abbrev pub checkpoint_from : List (RingId × ℕ) → ℕ → List ℕ → Checkpoint
checkpoint_from tuple front bytes = record { tuple = tuple; state = drop front bytes }

-- The checkpoint in an area and where it begins, or the damaged place of it, unless memory was wanting.
abbrev pub IsRead : Result (ℕ × Checkpoint) ℕ → Result (ℕ × Contents) CodecFault → Type 0
IsRead (Ok found) result = MatchResult result (λ x. found ≡ (x.0, shown_contents x.1)) (λ fault. fault ≡ NoRoom)
IsRead (Err at) result = MatchResult result (λ x. ⊥) (λ fault. (fault ≡ NoRoom) ⊎ (fault_position fault ≡ at))

-- a fault in the bytes of an area
abbrev pub damage_of : Area → CodecFault → SurveyFault
damage_of area (Short at) = Damaged area at
damage_of area (BadKind at) = Damaged area at
damage_of area (BadField at) = Damaged area at
damage_of area (TooLong at) = Damaged area at
damage_of area (Left at) = Damaged area at
damage_of area NoRoom = Memory

-- the disk or memory was wanting
abbrev pub IsWant : SurveyFault → Type 0
IsWant fault = (fault ≡ Disk) ⊎ (fault ≡ Memory)

-- What the areas stand for is found, or the damaged place, unless a call of the disk or memory was refused.
abbrev pub Finds : Result Checkpoints (Area × ℕ) → Result Checkpoints SurveyFault → Type 0
Finds (Ok c) result = MatchResult result (λ found. found ≡ c) IsWant
Finds (Err (area, at)) result = MatchResult result (λ found. ⊥) (λ fault. (fault ≡ Damaged area at) ⊎ IsWant fault)

-- an area that stands is read
abbrev pub standing_ops : Result (Option (Area × ℕ)) (Area × ℕ) → Told → List Op
standing_ops (Ok None) t = []
standing_ops (Ok (Some (area, generation))) t = area_readings area t
standing_ops (Err spot) t = []

-- the pair is looked at first
abbrev pub open_ops : Told → List Op
open_ops t = survey_ops ++ standing_ops (stands Check (reads t)) t

-- what is answered to who asks for a part
abbrev pub shown_part : Answer → PartAnswer
shown_part (IsPart total bytes) = Part total bytes
shown_part (IsGone newer) = Gone newer
shown_part IsUnknown = Unknown
