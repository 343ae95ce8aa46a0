-- One file: what a list of steps makes of its bytes, and which images a crash may leave of it.
use Rattle.std.specs.Prelude.{◌≡◌, ◌⊎◌, ℕ, ◌+◌, ◌<◌, ◌≤◌, min, max, List, [], ◌∷◌, ◌++◌, length, take, drop, slice_index}

-- what a device does to one file
pub data Step : Type 0 where
  -- these bytes at this position
  Put : (at : ℕ) (bytes : List ℕ) → Step
  -- cut to this length
  Shrink : (len : ℕ) → Step
  -- what was written is now kept
  Flush : Step

-- the file with these bytes at this position
abbrev pub written : ℕ → List ℕ → List ℕ → List ℕ
written at bytes file = take at file ++ (bytes ++ drop (at + length bytes) file)

-- the file after a step
abbrev pub changed : List ℕ → Step → List ℕ
changed file (Put at bytes) = written at bytes file
changed file (Shrink len) = take len file
changed file Flush = file

-- the file after some steps: what a read gives then
abbrev pub after : List ℕ → List Step → List ℕ
after file [] = file
after file (step ∷ steps) = after (changed file step) steps

-- the least length that the file has from here on, while these steps are made
abbrev pub least : List ℕ → List Step → ℕ
least file [] = length file
least file (step ∷ steps) = min (length file) (least (changed file step) steps)

-- the greatest length that it has
abbrev pub most : List ℕ → List Step → ℕ
most file [] = length file
most file (step ∷ steps) = max (length file) (most (changed file step) steps)

-- the step doesn't write at this position
abbrev pub Spares : ℕ → Step → Type 0
Spares i (Put at bytes) = (i < at) ⊎ (at + length bytes ≤ i)
Spares i (Shrink len) = Unit {0}
Spares i Flush = Unit {0}

-- none of the steps does
abbrev pub AllSpare : ℕ → List Step → Type 0
AllSpare i [] = Unit {0}
AllSpare i (step ∷ steps) = Spares i step × AllSpare i steps

-- A crash may leave this image of a file that was kept with these bytes, when these steps have been made
-- since: its length is one that the file had, or lies between two of them, and each byte that stands below
-- all these lengths and was not written stays. All others may be any bytes.
pub record MayLeave (kept : List ℕ) (pending : List Step) (image : List ℕ) : Type 0 where
  pub no_shorter : least kept pending ≤ length image
  pub no_longer : length image ≤ most kept pending
  pub stays : (i : ℕ) → i < least kept pending → AllSpare i pending → slice_index image i ≡ slice_index kept i

-- what is known of a file: the bytes that it had when it was last kept, and the steps since
pub record Kept : Type 0 where
  pub bytes : List ℕ
  pub pending : List Step

-- what a read gives
abbrev pub reading : Kept → List ℕ
reading k = after k.bytes k.pending

-- one step more
abbrev pub step_on : Kept → Step → Kept
step_on k (Put at bytes) = record { bytes = k.bytes; pending = k.pending ++ Put at bytes ∷ [] }
step_on k (Shrink len) = record { bytes = k.bytes; pending = k.pending ++ Shrink len ∷ [] }
step_on k Flush = record { bytes = reading k; pending = [] }

-- some steps more
abbrev pub steps_on : Kept → List Step → Kept
steps_on k [] = k
steps_on k (step ∷ steps) = steps_on (step_on k step) steps

-- a crash may leave this image
abbrev pub CanLeave : Kept → List ℕ → Type 0
CanLeave k image = MayLeave k.bytes k.pending image
