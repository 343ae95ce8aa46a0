-- What a client keeps of the replies: those of concerned partitions, in order, which can be one reply.
use Rattle.std.specs.Prelude.{◌≡◌, ◌≤◌, ◌⊎◌, true, List, [], ◌∷◌, length}
use Rattle.mrp_types.specs.declared.id.PartitionId.{PartitionId}
use Rattle.command_codec.specs.declared.command.Command.{Command}
use Rattle.command_codec.specs.declared.reply.Reply.{Reply}
use Rattle.command_codec.specs.Replies.{IsReply, reply_bytes}
use Rattle.mrp_config.specs.declared.tables.PartitionTable.{PartitionTable}
use Rattle.protocol.specs.Client.{fits}

-- a reply of a partition to a command: it has a spelling of at most 16,384 bytes, and fits
pub record IsPart (command : Command) (p : PartitionTable) (reply : Reply) : Type 0 where
  pub valid : IsReply reply
  pub short : length (reply_bytes reply) ≤ 16384
  pub fit : fits p command reply ≡ true

-- replies of some of the partitions, in their order
abbrev pub ArePartsOf : Command → List PartitionTable → List (PartitionId × Reply) → Type 0
ArePartsOf command [] [] = Unit {0}
ArePartsOf command [] (part ∷ parts) = ⊥
ArePartsOf command (p ∷ ps) [] = Unit {0}
ArePartsOf command (p ∷ ps) (part ∷ parts) =
    ((part.0 ≡ p.id) × IsPart command p part.1 × ArePartsOf command ps parts) ⊎ ArePartsOf command ps (part ∷ parts)
