-- The partitions whose replies are missing, as bits.
use Rattle.std.specs.Prelude.{ℕ, ◌≡◌, ◌+◌, ◌^◌, ◌==◌, ◌&&◌, not, if◌then◌else◌, List, [], ◌∷◌}
use Rattle.std.specs.Int.{bit_at}
use Rattle.mrp_types.specs.declared.id.PartitionId.{PartitionId}
use Rattle.command_codec.specs.declared.command.Command.{Command}
use Rattle.command_codec.specs.declared.reply.Reply.{Reply}
use Rattle.mrp_config.specs.declared.tables.PartitionTable.{PartitionTable}
use Rattle.mrp_config.specs.Routing.{is_concerned}
use Rattle.protocol.specs.Client.{has_part}

-- a bit for each of these partitions, by its number
abbrev pub bits_of : List PartitionId → ℕ
bits_of [] = 0
bits_of (id ∷ ids) = 2 ^ id.0 + bits_of ids

-- that of a partition where it is concerned and hasn't replied
abbrev pub missing_bit : Command → List (PartitionId × Reply) → PartitionTable → ℕ
missing_bit command parts p = if is_concerned command p && not (has_part parts p.id) then 2 ^ p.id.0 else 0

abbrev pub missing_bits : Command → List (PartitionId × Reply) → List PartitionTable → ℕ
missing_bits command parts [] = 0
missing_bits command parts (p ∷ ps) = missing_bit command parts p + missing_bits command parts ps

-- whether a partition's bit says that it is concerned
abbrev pub HasBitOf : Command → ℕ → PartitionTable → Type 0
HasBitOf command bits p = (bit_at bits p.id.0 == 1) ≡ is_concerned command p
