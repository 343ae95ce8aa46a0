-- Lists of numbers that were read.
use Rattle.std.specs.Prelude.{ℕ, ◌≡◌, ◌≤◌, true, false, List, length}
use Rattle.std.specs.List.{AllByRecursion}
use Rattle.hex.specs.Hex.{IsBytes}
use Rattle.mrp_types.specs.Seats.{is_among, AreDifferent}

-- both ends included
abbrev pub IsBetween : ℕ → ℕ → ℕ → Type 0
IsBetween least most n = (least ≤ n) × (n ≤ most)

-- each is at most `most`
abbrev pub AreAtMost : ℕ → List ℕ → Type 0
AreAtMost most ns = AllByRecursion (λ n. n ≤ most) ns

-- each is one of these
abbrev pub AreAmong : List ℕ → List ℕ → Type 0
AreAmong ids ns = AllByRecursion (λ n. is_among n ids ≡ true) ns

-- no number is in both
abbrev pub AreApart : List ℕ → List ℕ → Type 0
AreApart xs ys = AllByRecursion (λ y. is_among y xs ≡ false) ys

-- one to seven different nodes of the deployment
pub record AreSeats (nodes seats : List ℕ) : Type 0 where
  pub few : IsBetween 1 7 (length seats)
  pub numbers : AreAtMost 31 seats
  pub different : AreDifferent seats
  pub known : AreAmong nodes seats

-- the bytes of a key or of the end of a range
pub record IsKey (key : List ℕ) : Type 0 where
  pub few : length key ≤ 256
  pub bytes : IsBytes key
