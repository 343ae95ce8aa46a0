-- How a case is cut into its word and what it is about.
use Rattle.std.specs.Prelude.{ℕ, ◌≡◌, ◌==◌, if◌then◌else◌, List, [], ◌∷◌, Option, Some, None, Result, Ok, IfOk}
use Rattle.std.specs.Option.{option_map}
use Rattle.hex.specs.Hex.{decode_of}

-- what stands before the first space, and what stands behind it
abbrev pub cut_of : List ℕ → Option (List ℕ × List ℕ)
cut_of [] = None
cut_of (b ∷ rest) = if b == 32 then Some ([], rest) else option_map (λ (x : List ℕ × List ℕ). (b ∷ x.0, x.1)) (cut_of rest)

-- where these are digits of bytes, what is told is the text of the bytes
abbrev pub Tells : {E : Type 0} → List ℕ → (List ℕ → List ℕ) → Result (List ℕ) E → Type 0
Tells digits text result = (bytes : List ℕ) → decode_of digits ≡ Ok bytes → IfOk result (λ (told : List ℕ). told ≡ text bytes)

-- the same of a case of this word
abbrev pub TellsOf : {E : Type 0} → List ℕ → List ℕ → (List ℕ → List ℕ) → Result (List ℕ) E → Type 0
TellsOf word case text result = (digits : List ℕ) → cut_of case ≡ Some (word, digits) → Tells digits text result
