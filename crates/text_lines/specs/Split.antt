-- Lines, and the words of a line.
use Rattle.std.specs.Prelude.{ℕ, ◌+◌, ◌==◌, Bool, true, false, if◌then◌else◌, List, [], ◌∷◌, ◌++◌, Option, Some, None}
use Rattle.std.specs.Option.{option_map}
use Rattle.std.specs.List.{flat_map}

-- the place of the first byte that is this one
abbrev pub place_of : ℕ → List ℕ → Option ℕ
place_of byte [] = None
place_of byte (b ∷ rest) = if b == byte then Some 0 else option_map (λ n. n + 1) (place_of byte rest)

-- a byte more at the front of the first word
abbrev pub onto_first : ℕ → List (List ℕ) → List (List ℕ)
onto_first b [] = (b ∷ []) ∷ []
onto_first b (word ∷ words) = (b ∷ word) ∷ words

-- what stands between the bytes that are this one; a piece may be empty
abbrev pub pieces_of : ℕ → List ℕ → List (List ℕ)
pieces_of byte [] = [] ∷ []
pieces_of byte (b ∷ rest) = if b == byte then [] ∷ pieces_of byte rest else onto_first b (pieces_of byte rest)

-- what stands between single spaces
abbrev pub words_of : List ℕ → List (List ℕ)
words_of line = pieces_of 32 line

-- the pieces of what is left, none where nothing is left
abbrev pub pieces_left : ℕ → Option (List ℕ) → List (List ℕ)
pieces_left byte None = []
pieces_left byte (Some rest) = pieces_of byte rest

-- a line without its line feed, and whether a line feed ends it
pub record Line : Type 0 where
  pub text : List ℕ
  pub ended : Bool

abbrev pub ended_line : List ℕ → Line
ended_line text = record { text = text; ended = true }

-- lines that line feeds end
abbrev pub all_ended : List (List ℕ) → List Line
all_ended [] = []
all_ended (text ∷ texts) = ended_line text ∷ all_ended texts

-- a line with its line feed
abbrev pub line_bytes : Line → List ℕ
line_bytes line = line.text ++ (if line.ended then 10 ∷ [] else [])

-- lines one after another
abbrev pub unlined : List Line → List ℕ
unlined lines = flat_map line_bytes lines

-- a byte more at the front of the first line
abbrev pub onto_lines : ℕ → List Line → List Line
onto_lines b [] = record { text = b ∷ []; ended = false } ∷ []
onto_lines b (line ∷ lines) = record { text = b ∷ line.text; ended = line.ended } ∷ lines

-- all lines; only the last may have no line feed, and then it has a byte at least
abbrev pub lines_of : List ℕ → List Line
lines_of [] = []
lines_of (b ∷ rest) = if b == 10 then ended_line [] ∷ lines_of rest else onto_lines b (lines_of rest)

-- a byte more at the front of the line, which may be the first byte
abbrev pub onto_line : ℕ → Option (List ℕ × Bool × List ℕ) → List ℕ × Bool × List ℕ
onto_line b None = (b ∷ [], false, [])
onto_line b (Some line) = (b ∷ line.0, line.1, line.2)

-- the first line, whether a line feed ends it, and the bytes behind it
abbrev pub first_line : List ℕ → Option (List ℕ × Bool × List ℕ)
first_line [] = None
first_line (b ∷ rest) = Some (if b == 10 then ([], true, rest) else onto_line b (first_line rest))
