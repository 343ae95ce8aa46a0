-- The bytes of a checkpoint's area.
use Rattle.std.specs.Prelude.{ℕ, List, ◌∷◌, ◌++◌, length}
use Rattle.mrp_types.specs.declared.id.RingId.{RingId}
use Rattle.command_codec.specs.Fields.{u64_bytes}
use Rattle.frames.specs.Spelling.{tuple_bytes}
use Rattle.gate_area.specs.declared.pair.Pair.TheVariants.{Check}
use Rattle.gate_area.specs.Standing.{letter_of}

-- the bytes 1 to 15 of an area: the magic, version 1, and a generation
abbrev pub front_bytes : ℕ → List ℕ
front_bytes generation = 0x4d ∷ 0x52 ∷ letter_of Check ∷ 0 ∷ 0 ∷ 0 ∷ 1 ∷ u64_bytes generation

-- a checkpoint: its tuple, how many bytes its state has, and these bytes
abbrev pub checkpoint_bytes : List (RingId × ℕ) → List ℕ → List ℕ
checkpoint_bytes tuple state = tuple_bytes tuple ++ (u64_bytes (length state) ++ state)

-- what an area has behind its first byte, the gate: the front, the bytes 0 and 2 of format 2, and the checkpoint
abbrev pub checkpoint_body : ℕ → List (RingId × ℕ) → List ℕ → List ℕ
checkpoint_body generation tuple state = front_bytes generation ++ 0 ∷ 2 ∷ checkpoint_bytes tuple state
