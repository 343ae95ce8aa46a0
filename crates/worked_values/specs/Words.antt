-- Words of lines with what they are read as.
use Rattle.std.specs.Prelude.{ℕ, ◌≡◌, List, [], ◌∷◌, ◌++◌, codes, Result, Ok, Err}
use Rattle.text_lines.specs.declared.fault.TextFault.{TextFault}
use Rattle.text_lines.specs.declared.fault.TextFault.TheVariants.{Number, Range, Hex}
use Rattle.text_lines.specs.Reading.{number_of, number_within, hex_of}

-- a word, and what it is read as
pub record Row (A : Type 0) : Type 0 where
  pub word : List ℕ
  pub read : Result A TextFault

abbrev pub row : {A : Type 0} → List ℕ → Result A TextFault → Row A
row word read = record { word = word; read = read }

abbrev pub IsNumber : Row ℕ → Type 0
IsNumber r = number_of r.word ≡ r.read

abbrev pub numbers : List (Row ℕ)
numbers =
    row (codes "0") (Ok 0)
    ∷ row (codes "10") (Ok 10)
    ∷ row (codes "18446744073709551615") (Ok 18446744073709551615)
    ∷ row (codes "18446744073709551616") (Err Range)
    ∷ row (codes "100000000000000000000000000000000000000000000000000000000000000000000000000") (Err Range)
    ∷ row [] (Err Number)
    ∷ row (codes "01") (Err Number)
    ∷ row (codes "00") (Err Number)
    ∷ row (codes "018446744073709551616") (Err Number)
    ∷ row (codes "+1") (Err Number)
    ∷ row (codes "-1") (Err Number)
    ∷ row (codes "1a") (Err Number)
    ∷ row (codes "18446744073709551616a") (Err Number)
    ∷ row (codes "1" ++ 9 ∷ []) (Err Number)
    ∷ row (codes "1" ++ 13 ∷ []) (Err Number)
    ∷ []

-- the same of the only word of a line
abbrev pub within : Result ℕ TextFault → Result (ℕ × List (List ℕ)) TextFault
within (Ok number) = Ok (number, [])
within (Err fault) = Err fault

-- a number from 3 to 5
abbrev pub IsWithin : Row ℕ → Type 0
IsWithin r = number_within 3 5 (r.word ∷ []) ≡ within r.read

abbrev pub numbers_within : List (Row ℕ)
numbers_within =
    row (codes "2") (Err Range)
    ∷ row (codes "3") (Ok 3)
    ∷ row (codes "5") (Ok 5)
    ∷ row (codes "6") (Err Range)
    ∷ row (codes "18446744073709551616") (Err Range)
    ∷ row (codes "03") (Err Number)
    ∷ []

abbrev pub IsHex : Row (List ℕ) → Type 0
IsHex r = hex_of r.word ≡ r.read

abbrev pub hexes : List (Row (List ℕ))
hexes =
    row (codes "-") (Ok [])
    ∷ row (codes "0a") (Ok (10 ∷ []))
    ∷ row (codes "00ff") (Ok (0 ∷ 255 ∷ []))
    ∷ row [] (Err Hex)
    ∷ row (codes "0A") (Err Hex)
    ∷ row (codes "0") (Err Hex)
    ∷ row (codes "0g") (Err Hex)
    ∷ row (codes "--") (Err Hex)
    ∷ []
