-- Readers of words, for any kind of fault: what is read and the words behind it, or the first fault.
use Rattle.std.specs.Prelude.{ℕ, if◌then◌else◌, Bool, List, [], ◌∷◌, Result, Ok, Err}
use Rattle.mrp_types.specs.Reading as reading
use Rattle.std.specs.Str.{bytes_eq}
use Rattle.mrp_types.specs.Reading.{◌>>=◌}
use Rattle.text_lines.specs.Reading.{word_or}

-- what is read of words, and the words behind it
abbrev pub Reader : Type 0 → Type 0 → Type 0
Reader E V = reading.Reader (List (List ℕ)) E V

-- what the next word says; where there is none, the first fault
abbrev pub one : {E V : Type 0} → E → (List ℕ → Result V E) → Reader E V
one missing says words = do
  word ← word_or missing words
  value ← says word.0
  Ok (value, word.1)

-- what is read, where it passes a test, or this fault
abbrev pub tested : {E A : Type 0} → E → (A → Bool) → Reader E A → Reader E A
tested fault test reader words = do
  a ← reader words
  if test a.0 then Ok a else Err fault

-- the next word says how to go on; this fault where there is none, or one that isn't listed
abbrev pub by_key : {E A : Type 0} → E → List (List ℕ × Reader E A) → Reader E A
by_key missing entries [] = Err missing
by_key missing [] (word ∷ words) = Err missing
by_key missing (entry ∷ entries) (word ∷ words) = if bytes_eq word entry.0 then entry.1 words else by_key missing entries (word ∷ words)

-- what is read of all words; this fault where words are left over
abbrev pub all_of : {E A : Type 0} → E → Result (A × List (List ℕ)) E → Result A E
all_of over (Ok (x, [])) = Ok x
all_of over (Ok (x, word ∷ words)) = Err over
all_of over (Err fault) = Err fault
