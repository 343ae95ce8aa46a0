-- Reading words from the left: what is read, or the first fault.
use Rattle.std.specs.Prelude.{ℕ, ◌≡◌, ◌^◌, ◌==◌, ◌⊎◌, nat_lt, Bool, true, false, not, ◌&&◌, if◌then◌else◌, List, [], ◌∷◌, Result, Ok, Err, codes, length}
use Rattle.mrp_types.specs.Reading.{◌>>=◌}
use Rattle.mrp_types.specs.Reading as reading
use Rattle.std.specs.List.{list_all}
use Rattle.std.specs.Char.{is_ascii_digit}
use Rattle.std.specs.Str.{bytes_eq}
use Rattle.std.specs.Str.Parse.{digits_value}
use Rattle.hex.specs.Hex.{encode_lower, decode_of}
use Rattle.hex.specs.declared.error.FromHexError.{FromHexError}
use Rattle.hex.specs.declared.error.FromHexError.TheVariants.{OutOfMemory}
use Rattle.text_lines.specs.declared.fault.TextFault.{TextFault}
use Rattle.text_lines.specs.declared.fault.TextFault.TheVariants.{Word, Number, Range, Hex, Left, Memory}

-- What a call read, seen by view, and what is left, are what reading gives.
abbrev pub Gives : {X Y W : Type 0} → (X → Y) → Result (Y × W) TextFault → Result X TextFault → W → Type 0
Gives view read result left = reading.Gives view read result left

-- The same, unless memory ran out.
abbrev pub Fails : {Y : Type 0} → Result Y TextFault → TextFault → Type 0
Fails read fault = reading.Fails Memory read fault

abbrev pub Reads : {X Y W : Type 0} → (X → Y) → Result (Y × W) TextFault → Result X TextFault → W → Type 0
Reads view read result left = reading.Reads Memory view read result left

-- the same of a call that leaves nothing
abbrev pub Says : {X Y : Type 0} → (X → Y) → Result Y TextFault → Result X TextFault → Type 0
Says view read result = reading.Says Memory view read result

-- ---- numbers

-- one byte at least, and no zero before others
abbrev pub is_led : List ℕ → Bool
is_led [] = false
is_led (b ∷ []) = true
is_led (b ∷ c ∷ rest) = not (b == 48)

-- a decimal number of any length, without leading zeros
abbrev pub is_decimal : List ℕ → Bool
is_decimal word = is_led word && list_all is_ascii_digit word

-- the number that a word spells, below 2 ^ 64
abbrev pub number_of : List ℕ → Result ℕ TextFault
number_of word =
    if is_decimal word then (if nat_lt (digits_value 10 word) (2 ^ 64) then Ok (digits_value 10 word) else Err Range) else Err Number

-- ---- bytes

abbrev pub decoded : List ℕ → Result (List ℕ) FromHexError → Result (List ℕ) TextFault
decoded word (Ok bytes) = if bytes_eq (encode_lower bytes) word then Ok bytes else Err Hex
decoded word (Err e) = Err Hex

-- the bytes that a word spells: lower-case hexadecimal, `-` for none
abbrev pub hex_of : List ℕ → Result (List ℕ) TextFault
hex_of word = if bytes_eq word (codes "-") then Ok [] else (if length word == 0 then Err Hex else decoded word (decode_of word))

-- ---- words

-- the next word, or this fault
abbrev pub word_or : {E : Type 0} → E → List (List ℕ) → Result (List ℕ × List (List ℕ)) E
word_or missing [] = Err missing
word_or missing (word ∷ words) = Ok (word, words)

abbrev pub word_at : List (List ℕ) → Result (List ℕ × List (List ℕ)) TextFault
word_at words = word_or Word words

-- whether this is the next word
abbrev pub is_first : List ℕ → List (List ℕ) → Bool
is_first word [] = false
is_first word (next ∷ words) = bytes_eq next word

-- this very word
abbrev pub keyword_at : List ℕ → List (List ℕ) → Result (Unit {0} × List (List ℕ)) TextFault
keyword_at keyword words = do
  word ← word_at words
  if bytes_eq word.0 keyword then Ok (tt, word.1) else Err Word

-- a number that a word spells
abbrev pub number_at : List (List ℕ) → Result (ℕ × List (List ℕ)) TextFault
number_at words = do
  word ← word_at words
  number ← number_of word.0
  Ok (number, word.1)

-- a number of a range, both ends included
abbrev pub number_within : ℕ → ℕ → List (List ℕ) → Result (ℕ × List (List ℕ)) TextFault
number_within least most words = do
  number ← number_at words
  if nat_lt number.0 least then Err Range else (if nat_lt most number.0 then Err Range else Ok number)

-- the bytes that a word spells
abbrev pub hex_at : List (List ℕ) → Result (List ℕ × List (List ℕ)) TextFault
hex_at words = do
  word ← word_at words
  bytes ← hex_of word.0
  Ok (bytes, word.1)

-- no word is left
abbrev pub end_at : List (List ℕ) → Result (Unit {0}) TextFault
end_at [] = Ok tt
end_at (word ∷ words) = Err Left

-- what a fault of hexadecimal text is called, or want of memory
abbrev pub text_fault : FromHexError → TextFault
text_fault OutOfMemory = Memory
text_fault e = Hex
