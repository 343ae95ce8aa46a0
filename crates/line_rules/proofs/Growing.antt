-- What one more line changes.
use Rattle.std.proofs.Common.{◌≡◌, ℕ, ◌⊎◌, inl, inr, Bool, true, false, List, [], ◌∷◌, ◌++◌, Option, Some, refl, arith}
use Rattle.std.specs.Prelude.{nat_eq, if◌then◌else◌}
use Rattle.std.proofs.lemmas.Bool.Decides.{nat_tests}
use Rattle.mrp_types.specs.declared.id.RingId.{RingId}
use Rattle.mrp_types.specs.declared.value.Value.{Value}
use Rattle.transcript.specs.declared.line.Line.{Line}
use Rattle.line_rules.specs.Scanners.{past, touches, or_else, last_of, first_of, all_of, moves, position, book}
use Rattle.quorums.specs.Groups.{Has}

pub same_number : (x : ℕ) → nat_eq x x ≡ true
same_number x = grind (arith, nat_tests)

pub past_more : (before xs ys : List Line) → past before (xs ++ ys) ≡ past (past before xs) ys
past_more before [] ys = refl
past_more before (x ∷ xs) ys = past_more (x ∷ before) xs ys

-- ---- lines that aren't of a node's life

module _ {T : Type 0} (x : ℕ) (l : Line) (before : List Line) where
  pub last_quiet : (pick : List Line → Line → Option T) → touches x l ≡ false → last_of pick x (l ∷ before) ≡ last_of pick x before
  last_quiet pick quiet = rw quiet refl

  pub last_own : (pick : List Line → Line → Option T) → touches x l ≡ true → last_of pick x (l ∷ before) ≡ or_else (pick before l) (last_of pick x before)
  last_own pick own = rw own refl

  pub first_quiet : (pick : List Line → Line → Option T) → touches x l ≡ false → first_of pick x (l ∷ before) ≡ first_of pick x before
  first_quiet pick quiet = rw quiet refl

  pub first_own : (pick : List Line → Line → Option T) → touches x l ≡ true → first_of pick x (l ∷ before) ≡ or_else (first_of pick x before) (pick before l)
  first_own pick own = rw own refl

  pub all_quiet : (pick : Line → List T) → touches x l ≡ false → all_of pick x (l ∷ before) ≡ all_of pick x before
  all_quiet pick quiet = rw quiet refl

  pub all_own : (pick : Line → List T) → touches x l ≡ true → all_of pick x (l ∷ before) ≡ pick l ++ all_of pick x before
  all_own pick own = rw own refl

-- ---- what stays

pub has_later : {T : Type 0} (xs ys : List T) (t : T) → Has ys t → Has (xs ++ ys) t
has_later [] ys t h = h
has_later (x ∷ xs) ys t h = inr (has_later xs ys t h)

pub has_split : {T : Type 0} (xs ys : List T) (t : T) → Has (xs ++ ys) t → Has xs t ⊎ Has ys t
has_split [] ys t h = inr h
has_split (x ∷ xs) ys t (inl e) = inl (inl e)
has_split (x ∷ xs) ys t (inr h) = elim (has_split xs ys t h) [
  | inl there ↦ inl (inr there)
  | inr there ↦ inr there
]

pub all_more : {T : Type 0} (pick : Line → List T) (x : ℕ) (l : Line) (before : List Line) (t : T) → Has (all_of pick x before) t → Has (all_of pick x (l ∷ before)) t
all_more pick x l before t h = go (touches x l)
  where
    go : (b : Bool) → Has (if b then pick l ++ all_of pick x before else all_of pick x before) t
    go true = has_later (pick l) (all_of pick x before) t h
    go false = h

pub first_more : {T : Type 0} (pick : List Line → Line → Option T) (x : ℕ) (l : Line) (before : List Line) (t : T) → first_of pick x before ≡ Some t → first_of pick x (l ∷ before) ≡ Some t
first_more pick x l before t e = go (touches x l)
  where
    go : (b : Bool) → (if b then or_else (first_of pick x before) (pick before l) else first_of pick x before) ≡ Some t
    go true = rw e refl
    go false = e

pub book_more : (l : Line) (before : List Line) (ring : RingId) (inst : ℕ) (value : Value) → book before ring inst ≡ Some value → book (l ∷ before) ring inst ≡ Some value
book_more l before ring inst value e = rw e refl

pub position_quiet : (m : ℕ → ℕ) (rings : List RingId) (x : ℕ) (l : Line) (before : List Line) → touches x l ≡ false → position m rings x (l ∷ before) ≡ position m rings x before
position_quiet m rings x l before quiet = rw quiet refl

pub position_own : (m : ℕ → ℕ) (rings : List RingId) (x : ℕ) (l : Line) (before : List Line) → touches x l ≡ true → position m rings x (l ∷ before) ≡ moves m rings l (position m rings x before)
position_own m rings x l before own = rw own refl
