-- Writing all of a list of bytes, at once or in pieces.
use Rattle.std.specs.Prelude.{◌≡◌, ℕ, ◌≤◌, List, ◌++◌, length, take, Option, Result, Ok, Err, OnOk}
use Rattle.std.specs.Io.KnownBytes.{Appends}

-- the first n of the bytes were taken, all of them at Ok
pub record Takes {E : Type 0} (old new : Option (List ℕ)) (bytes : List ℕ) (result : Result (Unit {0}) E) (n : ℕ) : Type 0 where
  pub front : n ≤ length bytes
  pub taken : Appends old new (take n bytes)
  pub all : OnOk result (n ≡ length bytes)

abbrev pub WritesAll : {E : Type 0} → Option (List ℕ) → Option (List ℕ) → List ℕ → Result (Unit {0}) E → Type 0
WritesAll old new bytes result = (n : ℕ) × Takes old new bytes result n

-- of a text a front was written, and the rest is held
abbrev pub Handed : Option (List ℕ) → Option (List ℕ) → List ℕ → List ℕ → Type 0
Handed old new text held = (done : List ℕ) × (Appends old new done × (done ++ held ≡ text))

-- the same where nothing was refused; else a front was written
abbrev pub HandsOn : {E : Type 0} → Option (List ℕ) → Option (List ℕ) → List ℕ → List ℕ → Result (Unit {0}) E → Type 0
HandsOn old new text held (Ok u) = Handed old new text held
HandsOn old new text held (Err e) = WritesAll old new text (Err e)
