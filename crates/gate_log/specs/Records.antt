-- The records in an area of the journal: how they are spelled, and which the bytes of an area spell.
use Rattle.std.specs.Prelude.{◌≡◌, ◌≢◌, ℕ, ◌+◌, ◌-◌, ◌<◌, ◌^◌, min, ◌==◌, nat_lt, List, [], ◌∷◌, ◌++◌, length, take, drop, slice_index, Result, Ok, Err, zero, suc, All, if◌then◌else◌}
use Rattle.std.specs.Int.{from_be_bytes, to_be_bytes, w32, w64}

-- a number as four bytes, the greatest first
unfoldable pub u32_bytes : ℕ → List ℕ
u32_bytes n = to_be_bytes w32 n

-- four bytes as a number
unfoldable pub u32_of : List ℕ → ℕ
u32_of bytes = from_be_bytes w32 bytes

-- a number as eight bytes
unfoldable pub u64_bytes : ℕ → List ℕ
u64_bytes n = to_be_bytes w64 n

-- a record behind its open gate: its length and its bytes
abbrev pub opened_record : List ℕ → List ℕ
opened_record r = 1 ∷ (u32_bytes (length r) ++ r)

-- records one after another
abbrev pub all_opened : List (List ℕ) → List ℕ
all_opened [] = []
all_opened (r ∷ rs) = opened_record r ++ all_opened rs

-- how many bytes they take
abbrev pub room : List (List ℕ) → ℕ
room [] = 0
room (r ∷ rs) = 5 + (length r + room rs)

-- the place of the closed gate behind them in an area, whose first 16 bytes are its gate and its front
abbrev pub gate_of : List (List ℕ) → ℕ
gate_of records = 16 + room records

-- the place just after it
abbrev pub end_of : List (List ℕ) → ℕ
end_of records = 17 + room records

-- the end after the first record, or 17 while there is none
abbrev pub base_of : List (List ℕ) → ℕ
base_of [] = 17
base_of (r ∷ rs) = 22 + length r

-- a record fits its length's four bytes
abbrev pub IsShort : List ℕ → Type 0
IsShort r = length r < 2 ^ 32

-- The bytes of an area are its front, these records, each behind an open gate, and a closed gate, which is any
-- byte but 1. What follows means nothing.
pub record StandsFor (records : List (List ℕ)) (file : List ℕ) : Type 0 where
  pub short : All IsShort records
  pub within : gate_of records < length file
  pub spelled : take (gate_of records) file ≡ take 16 file ++ all_opened records
  pub shut : slice_index file (gate_of records) ≢ 1

-- what stands at a gate: a closed gate, a record of some length, or neither
pub data Mark : Type 0 where
  Shut : Mark
  Opens : (size : ℕ) → Mark
  Broken : Mark

-- the mark of an open gate, by what follows it
abbrev pub mark_behind : List ℕ → Mark
mark_behind rest =
    if nat_lt (length rest) 4 then Broken
    else if nat_lt (length rest) (4 + u32_of (take 4 rest)) then Broken
    else Opens (u32_of (take 4 rest))

-- what the bytes from a gate on begin with
abbrev pub mark_of : List ℕ → Mark
mark_of [] = Broken
mark_of (gate ∷ rest) = if gate == 1 then mark_behind rest else Shut

-- with a record before the others
abbrev pub preceded : List ℕ → Result (List (List ℕ)) ℕ → Result (List (List ℕ)) ℕ
preceded r (Ok records) = Ok (r ∷ records)
preceded r (Err at) = Err at

-- the record of some length behind a gate
abbrev pub record_at : ℕ → List ℕ → List ℕ
record_at size rest = take size (drop 5 rest)

-- what is found by what stands at the gate
abbrev pub by_mark : Mark → ℕ → (ℕ → Result (List (List ℕ)) ℕ) → Result (List (List ℕ)) ℕ
by_mark Shut at more = Ok []
by_mark (Opens size) at more = more size
by_mark Broken at more = Err at

-- The records from a place on, or the place where no byte stands or an open gate's length or bytes pass the
-- end. The first number bounds how many there are.
abbrev pub records_from : ℕ → ℕ → List ℕ → Result (List (List ℕ)) ℕ
records_from zero at rest = Err at
records_from (suc most) at rest = by_mark (mark_of rest) at (λ size. preceded (record_at size rest) (records_from most (at + (5 + size)) (drop (5 + size) rest)))

-- the records of an area, or the damaged place of it
abbrev pub walk_of : List ℕ → Result (List (List ℕ)) ℕ
walk_of file = records_from (length file) 16 (drop 16 file)

-- what a record's write puts behind its gate: its length, its bytes, and the next gate, closed
abbrev pub behind_gate : List ℕ → List ℕ
behind_gate r = u32_bytes (length r) ++ (r ++ 0 ∷ [])

-- the bytes 1 to 15 of an area: the magic, version 1, and a generation
abbrev pub front_bytes : ℕ → List ℕ
front_bytes generation = 0x4d ∷ 0x52 ∷ 0x4a ∷ 0 ∷ 0 ∷ 0 ∷ 1 ∷ u64_bytes generation

-- what an area has behind its first byte: these, records, and a closed gate
abbrev pub area_body : ℕ → List (List ℕ) → List ℕ
area_body generation records = front_bytes generation ++ (all_opened records ++ 0 ∷ [])

-- a record's bytes, of what its body holds
abbrev pub inner : List ℕ → List ℕ
inner written = drop 4 (take (length written - 1) written)

-- what the body of a record holds: a length past four bytes is held as the greatest that fits
abbrev pub sealed : List ℕ → List ℕ
sealed r = u32_bytes (min (length r) (2 ^ 32 - 1)) ++ (r ++ 0 ∷ [])
