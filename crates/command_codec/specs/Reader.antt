-- Fields read from the left: a value and what is left, or the first fault with its position.
use Rattle.std.specs.Prelude.{ℕ, zero, suc, ◌≡◌, ◌+◌, ◌⊎◌, nat_lt, ◌==◌, if◌then◌else◌, Bool, true, false, List, [], ◌∷◌, length, take, drop, Option, Some, None, Result, Ok, Err}
use Rattle.mrp_types.specs.Reading.{◌>>=◌}
use Rattle.mrp_types.specs.Reading as reading
use Rattle.std.specs.Int.{Width, w16, byte_len, from_be_bytes}
use Rattle.command_codec.specs.declared.fault.CodecFault.{CodecFault}
use Rattle.command_codec.specs.declared.fault.CodecFault.TheVariants.{Short, BadField, TooLong, Left, Memory}

-- a position, and the bytes from there on
pub record Spot : Type 0 where
  pub at : ℕ
  pub rest : List ℕ

abbrev pub start : List ℕ → Spot
start bytes = record { at = 0; rest = bytes }

-- what is read at a spot, and the spot behind it
abbrev pub Reader : Type 0 → Type 0
Reader V = reading.Reader Spot CodecFault V

-- What a call read, seen by view, and what is left, are what reading gives, unless memory ran out.
abbrev pub Fails : {Y : Type 0} → Result Y CodecFault → CodecFault → Type 0
Fails read fault = reading.Fails Memory read fault

abbrev pub Reads : {X Y : Type 0} → (X → Y) → Result (Y × Spot) CodecFault → Result X CodecFault → Spot → Type 0
Reads view read result left = reading.Reads Memory view read result left

-- the same of a call that leaves nothing
abbrev pub Says : {X Y : Type 0} → (X → Y) → Result Y CodecFault → Result X CodecFault → Type 0
Says view read result = reading.Says Memory view read result

-- the same of a call that keeps nothing: whether something was read
abbrev pub passed : {V : Type 0} → Result (V × Spot) CodecFault → Option Spot
passed (Ok x) = Some x.1
passed (Err fault) = None

abbrev pub Passes : {V : Type 0} → Result (V × Spot) CodecFault → Bool → Spot → Type 0
Passes read true left = passed read ≡ Some left
Passes read false left = passed read ≡ None

-- a call that takes no memory wants none
abbrev pub WantsNone : {X : Type 0} → Result X CodecFault → Type 0
WantsNone (Ok x) = Unit {0}
WantsNone (Err fault) = fault ≡ Memory → ⊥

-- ---- fields

abbrev pub byte_of : ℕ → List ℕ → Result (ℕ × Spot) CodecFault
byte_of at [] = Err (Short at)
byte_of at (b ∷ rest) = Ok (b, record { at = at + 1; rest = rest })

-- one byte
abbrev pub byte_at : Reader ℕ
byte_at spot = byte_of spot.at spot.rest

-- so many bytes
unfoldable pub bytes_at : ℕ → Reader (List ℕ)
bytes_at count spot = if nat_lt (length spot.rest) count then Err (Short spot.at) else Ok (take count spot.rest, record { at = spot.at + count; rest = drop count spot.rest })

-- a number of this width, the highest byte first
unfoldable pub number_at : Width → Reader ℕ
number_at w spot = do
  bytes ← bytes_at (byte_len w) spot
  Ok (from_be_bytes w bytes.0, bytes.1)

-- a number that has to be in this range, both ends included
unfoldable pub within : ℕ → ℕ → Reader ℕ → Reader ℕ
within least most read spot = do
  number ← read spot
  if nat_lt number.0 least then Err (BadField spot.at) else (if nat_lt most number.0 then Err (BadField spot.at) else Ok number)

-- a length of two bytes: one below the least is a bad field, one past the limit too long
unfoldable pub length_at : ℕ → ℕ → Reader ℕ
length_at least most spot = do
  number ← number_at w16 spot
  if nat_lt number.0 least then Err (BadField spot.at) else (if nat_lt most number.0 then Err (TooLong spot.at) else Ok number)

-- a length, and that many bytes; the test is broken where the bytes begin
unfoldable pub string_that : ℕ → ℕ → (List ℕ → Bool) → Reader (List ℕ)
string_that least most test spot = do
  number ← length_at least most spot
  bytes ← bytes_at number.0 number.1
  if test bytes.0 then Ok bytes else Err (BadField number.1.at)

-- a length, and that many bytes
unfoldable pub string_at : ℕ → ℕ → Reader (List ℕ)
string_at least most spot = do
  number ← length_at least most spot
  bytes_at number.0 number.1

-- ---- several fields

abbrev pub ended : {V : Type 0} → V → Spot → Result V CodecFault
ended value spot = if length spot.rest == 0 then Ok value else Err (Left spot.at)

-- all of the bytes
abbrev pub whole : {V : Type 0} → Reader V → List ℕ → Result V CodecFault
whole read bytes = do
  value ← read (start bytes)
  ended value.0 value.1
