-- What a word of a line may say: a number, a tuple, a party, bytes, a value.
use Rattle.std.specs.Prelude.{ℕ, ◌^◌, nat_lt, nat_le, ◌==◌, ◌&&◌, if◌then◌else◌, List, [], ◌∷◌, length, codes, Option, Some, None, Result, Ok, Err}
use Rattle.std.specs.Option.{option_map, option_and_then}
use Rattle.std.specs.Str.{bytes_eq}
use Rattle.text_lines.specs.Split.{pieces_of}
use Rattle.text_lines.specs.Reading.{number_of as decimal_of, hex_of}
use Rattle.text_lines.specs.declared.fault.TextFault.{TextFault}
use Rattle.command_codec.specs.Parts.{spells_batch}
use Rattle.mrp_types.specs.declared.id.Party.{Party}
use Rattle.mrp_types.specs.declared.id.Party.TheVariants.{Node, Client}
use Rattle.mrp_types.specs.declared.value.Value.{Value}
use Rattle.mrp_types.specs.declared.value.Value.TheVariants.{Skip, Batch}

-- the number, where there is one below the limit
abbrev pub below : ℕ → Result ℕ TextFault → Option ℕ
below limit (Ok n) = if nat_lt n limit then Some n else None
below limit (Err fault) = None

-- the number below a limit that a word spells: decimal without leading zeros
unfoldable pub number_of : ℕ → List ℕ → Option ℕ
number_of limit word = below limit (decimal_of word)

-- the numbers that these pieces spell, each below 2 ^ 64
abbrev pub numbers_of : List (List ℕ) → Option (List ℕ)
numbers_of [] = Some []
numbers_of (piece ∷ pieces) = option_and_then (λ n. option_map (λ (ns : List ℕ). n ∷ ns) (numbers_of pieces)) (number_of (2 ^ 64) piece)

-- the tuple that a word spells: 1 to 16 numbers with commas between
unfoldable pub tuple_of : List ℕ → Option (List ℕ)
tuple_of word = if nat_le (length (pieces_of 44 word)) 16 then numbers_of (pieces_of 44 word) else None

-- a node's number behind an `n`, a client's behind a `c`
abbrev pub party_of : List ℕ → Option Party
party_of [] = None
party_of (b ∷ digits) =
    if b == 110 then option_map (λ n. Node (record { 0 = n })) (number_of 256 digits)
    else if b == 99 then option_map (λ n. Client (record { 0 = n })) (number_of 256 digits)
    else None

-- these bytes, where there are any
abbrev pub some_bytes : Result (List ℕ) TextFault → Option (List ℕ)
some_bytes (Ok []) = None
some_bytes (Ok (b ∷ rest)) = Some (b ∷ rest)
some_bytes (Err fault) = None

-- the bytes that a word spells: one or more, in lower-case hexadecimal
unfoldable pub bytes_of : List ℕ → Option (List ℕ)
bytes_of word = some_bytes (hex_of word)

-- a batch of at most 8,192 bytes
abbrev pub batch_value : List ℕ → Option Value
batch_value bytes = if nat_le (length bytes) 8192 && spells_batch bytes then Some (Batch bytes) else None

-- the value that a word spells: `skip`, or a batch in hexadecimal
abbrev pub value_of : List ℕ → Option Value
value_of word = if bytes_eq word (codes "skip") then Some Skip else option_and_then batch_value (bytes_of word)
