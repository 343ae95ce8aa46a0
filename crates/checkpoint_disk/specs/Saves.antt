-- What a save leaves at each moment, and how its operations end.
use Rattle.std.specs.Prelude.{◌≡◌, ◌⊎◌, ℕ, Bool, false, not, List, [], ◌∷◌, ◌++◌, Option, None, Some, Result, Ok, Err, if◌then◌else◌}
use Rattle.mrp_types.specs.declared.id.RingId.{RingId}
use Rattle.disk_model.specs.declared.areas.Areas.{Areas}
use Rattle.disk_model.specs.Calls.{Told}
use Rattle.disk_model.specs.Running.{Op, Ending, Passed, Stopped, Wanted}
use Rattle.command_codec.specs.Fields.{u64_bytes}
use Rattle.frames.specs.Spelling.{tuple_bytes}
use Rattle.checkpoint.specs.Spelling.{front_bytes}
use Rattle.checkpoint.specs.Checkpoints.{Checkpoint, Checkpoints, checkpoints_in, saved, save_ops, is_after}
use Rattle.checkpoint_disk.specs.declared.fault.SaveFault.{SaveFault}
use Rattle.checkpoint_disk.specs.declared.fault.SaveFault.TheVariants.{Disk, Older, Memory}

-- what an area has between its gate and a state of this length
abbrev pub head_bytes : ℕ → List (RingId × ℕ) → ℕ → List ℕ
head_bytes generation tuple size = front_bytes generation ++ 0 ∷ 2 ∷ (tuple_bytes tuple ++ u64_bytes size)

-- the areas of the journal are as they were
pub record JournalStays (before image : Areas) : Type 0 where
  pub first : image.journal0 ≡ before.journal0
  pub second : image.journal1 ≡ before.journal1

-- the areas stand for the checkpoint before or for the one that is saved
pub record SaveLeaves (c : Checkpoints) (tuple : List (RingId × ℕ)) (state : List ℕ) (before image : Areas) : Type 0 where
  pub journal : JournalStays before image
  pub checks : (checkpoints_in image ≡ Ok c) ⊎ (checkpoints_in image ≡ Ok (saved c tuple state))

abbrev pub fault_ending : SaveFault → Ending
fault_ending Disk = Stopped
fault_ending (Older newest) = Passed
fault_ending Memory = Wanted

abbrev pub save_ending : {T : Type 0} → Result T SaveFault → Ending
save_ending (Ok _) = Passed
save_ending (Err fault) = fault_ending fault

-- whether a checkpoint stands that this tuple isn't after
abbrev pub is_older : Option Checkpoint → List (RingId × ℕ) → Bool
is_older None tuple = false
is_older (Some newest) tuple = not (is_after newest.tuple tuple)

-- the tuple that is answered then
abbrev pub OlderThan : Option Checkpoint → List (RingId × ℕ) → List (RingId × ℕ) → Type 0
OlderThan None tuple newer = ⊥
OlderThan (Some newest) tuple newer = (newer ≡ newest.tuple) × (is_after newest.tuple tuple ≡ false)

-- none where the tuple isn't after the newest one
abbrev pub saving_ops : Checkpoints → List (RingId × ℕ) → List ℕ → Told → List Op
saving_ops c tuple state t = if is_older c.newest tuple then [] else save_ops c tuple state t
