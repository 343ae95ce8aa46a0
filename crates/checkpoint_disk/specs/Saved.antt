-- What images of a disk stand for once a checkpoint was saved, or while it is.
use Rattle.std.specs.Prelude.{◌≡◌, ◌⊎◌, ◌+◌, ℕ, List, ◌∷◌, ◌++◌, Ok, Err}
use Rattle.mrp_types.specs.declared.id.RingId.{RingId}
use Rattle.disk_model.specs.declared.area.Area.{Area}
use Rattle.disk_model.specs.declared.areas.Areas.{Areas}
use Rattle.disk_model.specs.Areas.{bytes_of}
use Rattle.disk_model.specs.Calls.{Told, IsSettled, reads}
use Rattle.checkpoint.specs.Spelling.{front_bytes, checkpoint_bytes, checkpoint_body}
use Rattle.checkpoint.specs.Checkpoints.{Checkpoint, Checkpoints, checkpoints_in, read_area, next_area, saved}
use Rattle.disk_states.specs.Works.{MaySave}

-- an area of format 2 with an open gate
abbrev pub newer_area : ℕ → List (RingId × ℕ) → List ℕ → List ℕ
newer_area generation tuple state = 1 ∷ checkpoint_body generation tuple state

-- an area of format 1, which has the checkpoint right behind the generation
abbrev pub older_area : ℕ → List (RingId × ℕ) → List ℕ → List ℕ
older_area generation tuple state = 1 ∷ (front_bytes generation ++ checkpoint_bytes tuple state)

-- nothing is pending on a disk that stands for these checkpoints, and this one may be saved
pub record MayBeSaved (t : Told) (c : Checkpoints) (tuple : List (RingId × ℕ)) (state : List ℕ) : Type 0 where
  pub settled : IsSettled t
  pub stands : checkpoints_in (reads t) ≡ Ok c
  pub may : MaySave c tuple state

-- no position of an area of the checkpoints is damaged
abbrev pub NoneDamaged : Areas → Type 0
NoneDamaged areas = (area : Area) (at : ℕ) → checkpoints_in areas ≡ Err (area, at) → ⊥

-- The saved checkpoint is found: its area is spelled so and reads as this tuple and this state, and it is the newest one.
pub record FindsSaved (c : Checkpoints) (tuple : List (RingId × ℕ)) (state : List ℕ) (image : Areas) : Type 0 where
  pub spelled : bytes_of (next_area c.area) image ≡ newer_area (c.generation + 1) tuple state
  pub read : read_area (bytes_of (next_area c.area) image) ≡ Ok (18, record { tuple = tuple; state = state })
  pub newest : checkpoints_in image ≡ Ok (saved c tuple state)
  pub undamaged : NoneDamaged image

-- either the checkpoints before or the saved one
pub record FindsEither (c : Checkpoints) (tuple : List (RingId × ℕ)) (state : List ℕ) (image : Areas) : Type 0 where
  pub newest : (checkpoints_in image ≡ Ok c) ⊎ (checkpoints_in image ≡ Ok (saved c tuple state))
  pub undamaged : NoneDamaged image
