-- Bytes that move piece by piece.
use Rattle.std.proofs.Common.{arith, ◌≡◌, ◌≤◌, ◌<◌, ℕ, ◌+◌, List, [], ◌++◌, length, take, drop, min, Option, sym, subst, add-zero}
use Rattle.std.proofs.lemmas.Grind.{common_steps}
use Rattle.std.proofs.lemmas.List.{take-append-drop, drop-drop}
use Rattle.std.proofs.Math.Seq.{take-add, take-append_seam}
use Rattle.std.proofs.KnownBytes.{Appends-trans}
use Rattle.std.specs.Io.KnownBytes.{Appends}

front_alone : (r : ℕ) (rest behind : List ℕ) → r ≤ length rest → take r (take r rest ++ behind) ≡ take r rest
front_alone r rest behind fits =
    let full : length (take r rest) ≡ r = grind (arith, common_steps) in
    let seam : take (length (take r rest)) (take r rest ++ behind) ≡ take r rest = take-append_seam (take r rest) behind in
    subst (λ (n : ℕ). take n (take r rest ++ behind) ≡ take r rest) full seam

-- what is moved to the front of a buffer, and what is left
pub front_moved : (r at : ℕ) (bytes into : List ℕ) → r ≤ length (drop at bytes) →
    drop at bytes ≡ take r (take r (drop at bytes) ++ drop r into) ++ drop (at + r) bytes
front_moved r at bytes into fits =
    rw (front_alone r (drop at bytes) (drop r into) fits, ← drop-drop r at bytes) (sym (take-append-drop r (drop at bytes)))

-- with room, nothing is moved only where nothing is left
pub none_left : (r at n : ℕ) (bytes : List ℕ) → r ≡ min (length (drop at bytes)) n → r ≡ 0 → 0 < n → drop (at + r) bytes ≡ []
none_left r at n bytes is zero room =
    let empty : length (drop at bytes) ≡ 0 = grind arith in
    let nil : drop at bytes ≡ [] = grind (arith, common_steps) in
    rw (zero, add-zero) nil

-- a piece more is taken
pub taken_further : (a b c : Option (List ℕ)) (bytes : List ℕ) (d n : ℕ) →
    Appends a b (take d bytes) → Appends b c (take n (drop d bytes)) → Appends a c (take (d + n) bytes)
taken_further a b c bytes d n first second = rw take-add (Appends-trans a b c (take d bytes) (take n (drop d bytes)) first second)
