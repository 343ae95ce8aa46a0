-- Reading the front of a source, up to so many bytes.
use Rattle.std.specs.Prelude.{◌≡◌, ◌⊎◌, ℕ, ◌+◌, ◌≤◌, ◌<◌, List, [], ◌++◌, length, Option, Result, Ok, Err}
use Rattle.std.specs.Io.KnownBytes.{Consumes, IsAtEnd}
use Rattle.outside.specs.Counts.{rise, count_after}
use Rattle.outside.specs.declared.refused.Refused.{Refused}
use Rattle.outside.specs.declared.refused.Refused.TheVariants.{Failed, Memory}

-- at Ok these are all bytes that there were or the first so many, and no read failed
abbrev pub AnswerSays : Result (List ℕ) Refused → ℕ → Option (List ℕ) → List ℕ → ℕ → ℕ → Type 0
AnswerSays (Ok bytes) most new came before now = (bytes ≡ came) × (IsAtEnd new ⊎ (length came ≡ most)) × (now ≡ before)
AnswerSays (Err refused) most new came before now = now ≡ count_after refused before

-- The bytes that came, and what the answer says of them. No more than so many came, and each read but the last gave at
-- least one.
pub record Comes (most : ℕ) (old new : Option (List ℕ)) (faults_old faults_new reads_old reads_new : ℕ)
    (result : Result (List ℕ) Refused) (came : List ℕ) : Type 0 where
  pub consumed : Consumes old new came
  pub stopped : length came ≤ most
  pub read : reads_new ≤ reads_old + length came + 1
  pub answer : AnswerSays result most new came faults_old faults_new

abbrev pub ReadsFront : ℕ → Option (List ℕ) → Option (List ℕ) → ℕ → ℕ → ℕ → ℕ → Result (List ℕ) Refused → Type 0
ReadsFront most old new faults_old faults_new reads_old reads_new result =
    (came : List ℕ) × Comes most old new faults_old faults_new reads_old reads_new result came

-- one read of at most so many bytes, added to those so far
abbrev pub PieceSays : Result ℕ Refused → ℕ → Option (List ℕ) → List ℕ → List ℕ → List ℕ → ℕ → ℕ → Type 0
PieceSays (Ok n) room new old_bytes new_bytes came before now =
    (new_bytes ≡ old_bytes ++ came) × (length came ≡ n) × (n ≡ 0 → 0 < room → IsAtEnd new) × (now ≡ before)
PieceSays (Err Failed) room new old_bytes new_bytes came before now = (came ≡ []) × (now ≡ rise before)
PieceSays (Err Memory) room new old_bytes new_bytes came before now = now ≡ before

pub record Piece (room : ℕ) (old new : Option (List ℕ)) (faults_old faults_new reads_old reads_new : ℕ)
    (bytes_old bytes_new : List ℕ) (result : Result ℕ Refused) (came : List ℕ) : Type 0 where
  pub consumed : Consumes old new came
  pub fits : length came ≤ room
  pub read : reads_new ≤ reads_old + 1
  pub answer : PieceSays result room new bytes_old bytes_new came faults_old faults_new

abbrev pub PieceComes : ℕ → Option (List ℕ) → Option (List ℕ) → ℕ → ℕ → ℕ → ℕ → List ℕ → List ℕ → Result ℕ Refused → Type 0
PieceComes room old new faults_old faults_new reads_old reads_new bytes_old bytes_new result =
    (came : List ℕ) × Piece room old new faults_old faults_new reads_old reads_new bytes_old bytes_new result came
