-- What came of a source, and what a sink took.
use Rattle.std.specs.Prelude.{ℕ, ◌≡◌, ◌≤◌, ◌+◌, ◌⊎◌, List, length, Option}
use Rattle.std.specs.Io.KnownBytes.{Consumes, IsAtEnd, Keeps}
use Rattle.outside.specs.Counts.{rise}

-- Of a source: the bytes left before and after, where it tells them, its counts of faults and of reads.
pub record Intake : Type 0 where
  pub before : Option (List ℕ)
  pub after : Option (List ℕ)
  pub faults_before : ℕ
  pub faults_after : ℕ
  pub reads_before : ℕ
  pub reads_after : ℕ

-- nothing was read
pub record IsUnread (intake : Intake) : Type 0 where
  pub bytes : Keeps intake.before intake.after
  pub faults : intake.faults_after ≡ intake.faults_before
  pub reads : intake.reads_after ≡ intake.reads_before

-- these bytes came: no more than so many, and each read but the last gave at least one
pub record Came (most : ℕ) (intake : Intake) (bytes : List ℕ) : Type 0 where
  pub consumed : Consumes intake.before intake.after bytes
  pub stopped : length bytes ≤ most
  pub reads : intake.reads_after ≤ intake.reads_before + length bytes + 1

-- these bytes came, which are all that there were or the first so many, and no read failed
pub record IsRead (most : ℕ) (intake : Intake) (bytes : List ℕ) : Type 0 where
  pub came : Came most intake bytes
  pub whole : IsAtEnd intake.after ⊎ (length bytes ≡ most)
  pub faults : intake.faults_after ≡ intake.faults_before

-- a read failed
pub record HasFailed (most : ℕ) (intake : Intake) : Type 0 where
  pub bytes : List ℕ
  pub came : Came most intake bytes
  pub faults : intake.faults_after ≡ rise intake.faults_before

-- memory ran out, and no read failed
pub record IsCutShort (most : ℕ) (intake : Intake) : Type 0 where
  pub bytes : List ℕ
  pub came : Came most intake bytes
  pub faults : intake.faults_after ≡ intake.faults_before

-- Of a sink: the bytes taken before and after, where it tells them, and its counts of faults.
pub record Output : Type 0 where
  pub before : Option (List ℕ)
  pub after : Option (List ℕ)
  pub faults_before : ℕ
  pub faults_after : ℕ

-- the sink took nothing and didn't fail
abbrev pub IsUntouched : Output → Type 0
IsUntouched out = Keeps out.before out.after × (out.faults_after ≡ out.faults_before)
