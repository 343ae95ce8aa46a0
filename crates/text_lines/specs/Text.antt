-- The spelling of words and lines.
use Rattle.std.specs.Prelude.{ℕ, List, [], ◌∷◌, ◌++◌, codes}
use Rattle.std.specs.List.{flat_map}
use Rattle.hex.specs.Hex.{encode_lower}

-- a piece after the byte that sets it off
abbrev pub set_off : ℕ → List ℕ → List ℕ
set_off byte piece = byte ∷ piece

-- pieces with this byte between
abbrev pub joined_by : ℕ → List (List ℕ) → List ℕ
joined_by byte [] = []
joined_by byte (piece ∷ pieces) = piece ++ flat_map (set_off byte) pieces

-- a word after a space
abbrev pub spaced : List ℕ → List ℕ
spaced word = set_off 32 word

-- words with single spaces between
abbrev pub joined : List (List ℕ) → List ℕ
joined words = joined_by 32 words

-- words with single spaces between, and a line feed
abbrev pub line_text : List (List ℕ) → List ℕ
line_text words = joined words ++ 10 ∷ []

-- bytes as lower-case hexadecimal, `-` for none
abbrev pub hex_text : List ℕ → List ℕ
hex_text [] = codes "-"
hex_text (b ∷ rest) = encode_lower (b ∷ rest)
