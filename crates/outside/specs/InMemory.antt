-- What a source and a sink in memory are.
use Rattle.std.specs.Prelude.{ℕ, List}

-- the bytes that are left, the numbers of the reads that fail, how many reads were made, how many failed
pub record Input : Type 0 where
  pub left : List ℕ
  pub fail : List ℕ
  pub reads : ℕ
  pub faults : ℕ

-- the bytes taken, the numbers of the writes that fail, how many writes were made, how many failed
pub record Output : Type 0 where
  pub taken : List ℕ
  pub fail : List ℕ
  pub writes : ℕ
  pub faults : ℕ
