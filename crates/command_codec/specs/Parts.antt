-- Parts that records, frames and checkpoints share: rings, ballots, instances, ranges and values.
use Rattle.std.specs.Prelude.{ℕ, ◌+◌, ◌-◌, ◌^◌, ◌≤◌, ◌==◌, ◌&&◌, if◌then◌else◌, Bool, true, false, IsTrue, List, [], ◌∷◌, length, Result, Ok, Err}
use Rattle.std.specs.Int.{w64}
use Rattle.mrp_types.specs.declared.id.RingId.{RingId}
use Rattle.mrp_types.specs.declared.value.Entry.{Entry}
use Rattle.mrp_types.specs.declared.value.Value.{Value}
use Rattle.mrp_types.specs.declared.value.Value.TheVariants.{Skip, Batch}
use Rattle.command_codec.specs.declared.fault.CodecFault.{CodecFault}
use Rattle.mrp_types.specs.Reading.{follow, shown}
use Rattle.command_codec.specs.Reader.{Reader, byte_at, number_at, within, string_that}
use Rattle.command_codec.specs.Grammar.{batch_of}

-- ---- values

-- whether the bytes are a value of Skip
abbrev pub spells_skip : List ℕ → Bool
spells_skip [] = false
spells_skip (b ∷ []) = b == 0
spells_skip (b ∷ c ∷ rest) = false

abbrev pub was_read : Result (List Entry) CodecFault → Bool
was_read (Ok entries) = true
was_read (Err fault) = false

-- whether the bytes are a batch of entries
abbrev pub spells_batch : List ℕ → Bool
spells_batch bytes = was_read (batch_of bytes)

-- Skip, or the bytes of a batch, at most 8,192 of them
abbrev pub IsSpelled : Value → Type 0
IsSpelled Skip = Unit {0}
IsSpelled (Batch batch) = (length batch ≤ 8192) × IsTrue (spells_batch batch)

-- whether the bytes are a value that may stand: Skip where it may, a batch where the range has one instance
abbrev pub may_stand : Bool → Bool → List ℕ → Bool
may_stand skips alone bytes = if spells_skip bytes then skips else alone && spells_batch bytes

abbrev pub value_of : List ℕ → Value
value_of bytes = if spells_skip bytes then Skip else Batch bytes

unfoldable pub value_at : Bool → Bool → Reader Value
value_at skips alone = shown value_of (string_that 0 8192 (may_stand skips alone))

-- ---- numbers

-- a ring below 16
abbrev pub ring_at : Reader RingId
ring_at = shown (λ n. record { 0 = n }) (within 0 15 byte_at)

abbrev pub ballot_at : Reader ℕ
ballot_at = within 0 (2 ^ 48 - 1) (number_at w64)

abbrev pub inst_at : Reader ℕ
inst_at = within 0 (2 ^ 40 - 1) (number_at w64)

-- the first instance of a range, which is at least this, and the first one past it
abbrev pub range_from : ℕ → Reader (ℕ × ℕ)
range_from least = follow (within least (2 ^ 40 - 1) (number_at w64)) (λ lo. within (lo + 1) (2 ^ 40) (number_at w64))

abbrev pub range_at : Reader (ℕ × ℕ)
range_at = range_from 0

-- whether a range has one instance
abbrev pub is_one_of : ℕ × ℕ → Bool
is_one_of range = range.1 == range.0 + 1
