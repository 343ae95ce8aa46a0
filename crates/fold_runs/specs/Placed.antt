-- What a reply line has to do with the place that it names.
use Rattle.std.specs.Prelude.{◌≡◌, ℕ, List, ◌∷◌, ◌++◌, Some, length}
use Rattle.mrp_types.specs.declared.id.ClientId.{ClientId}
use Rattle.mrp_types.specs.declared.id.NodeId.{NodeId}
use Rattle.mrp_types.specs.declared.place.Place.{Place}
use Rattle.mrp_types.specs.declared.value.Entry.{Entry}
use Rattle.mrp_types.specs.declared.value.Value.{Value}
use Rattle.mrp_types.specs.Book.{book_of}
use Rattle.command_codec.specs.declared.reply.Reply.{Reply as Answered}
use Rattle.command_codec.specs.Replies.{reply_bytes}
use Rattle.mrp_config.specs.Config.{Config, partition_of}
use Rattle.mrp_config.specs.declared.tables.PartitionTable.{PartitionTable}
use Rattle.plain_model.specs.Tuples.{round_sizes, tuple_at}
use Rattle.plain_model.specs.Fold.{entries_below, entries_of_value, place_with, reply_to}
use Rattle.protocol.specs.Lines.{Line, Reply}
use Rattle.line_rules.specs.Scanners.{learned}

-- At this index the value of the place has an entry of the client and the number, and the bytes are what the partition replies to
-- it after all entries before it.
pub record IsReplyAt (c : Config) (lines : List Line) (p : PartitionTable) (place : Place) (index : ℕ) (client : ClientId) (seq : ℕ) (bytes : List ℕ) : Type 0 where
  pub value : Value
  pub holds : book_of (learned lines) place.ring place.inst ≡ Some value
  pub below : List Entry
  pub known : entries_below (round_sizes c) (learned lines) (tuple_at (round_sizes c) p.rings place) ≡ Some below
  pub front : List Entry
  pub entry : Entry
  pub rest : List Entry
  pub there : entries_of_value value ≡ front ++ entry ∷ rest
  pub at : length front ≡ index
  pub asker : client ≡ entry.client
  pub number : seq ≡ entry.seq
  pub reply : Answered
  pub replied : reply_to p (below ++ front) entry ≡ Some reply
  pub spelled : bytes ≡ reply_bytes reply

-- the node is a replica of a partition that gives this reply there
pub record IsReplyOf (c : Config) (lines : List Line) (node : NodeId) (place : Place) (index : ℕ) (client : ClientId) (seq : ℕ) (bytes : List ℕ) : Type 0 where
  pub partition : PartitionTable
  pub replica : partition_of c.partitions node ≡ Some partition
  pub given : IsReplyAt c lines partition place index client seq bytes

abbrev pub IsPlaced : Config → List Line → Line → Type 0
IsPlaced c lines (Reply node ring inst index client seq bytes) = IsReplyOf c lines node (place_with ring inst) index client seq bytes
IsPlaced c lines other = Unit {0}
