-- What bytes and replies have to do with the lines so far, which stand with the latest first: a state at a tuple is what the fold
-- leaves of the entries below it, and a reply is what the fold replies at its place.
use Rattle.std.specs.Prelude.{◌≡◌, ℕ, ◌<◌, ◌⊎◌, true, List, [], ◌∷◌, ◌++◌, length, take, drop, Option, Some, None}
use Rattle.mrp_types.specs.declared.id.NodeId.{NodeId}
use Rattle.mrp_types.specs.declared.id.ClientId.{ClientId}
use Rattle.mrp_types.specs.declared.id.PartitionId.{PartitionId}
use Rattle.mrp_types.specs.declared.id.RingId.{RingId}
use Rattle.mrp_types.specs.declared.id.Party.{Party}
use Rattle.mrp_types.specs.declared.id.Party.TheVariants.{Node, Client}
use Rattle.mrp_types.specs.declared.place.Place.{Place}
use Rattle.mrp_types.specs.declared.value.Entry.{Entry}
use Rattle.mrp_types.specs.declared.value.Value.TheVariants.{Batch}
use Rattle.command_codec.specs.declared.reply.Reply.{Reply as Answered}
use Rattle.command_codec.specs.Replies.{reply_bytes}
use Rattle.mrp_config.specs.Config.{Config, has_ring, partition_of}
use Rattle.mrp_config.specs.declared.tables.PartitionTable.{PartitionTable}
use Rattle.frames.specs.declared.body.Body.{Body}
use Rattle.frames.specs.declared.body.Body.TheVariants.{Part as PartFrame, Reply}
use Rattle.frames.specs.declared.sent.Sent.{Sent}
use Rattle.frames.specs.Grammar.{part_of as part_size}
use Rattle.plain_model.specs.Tuples.{round_sizes, is_tuple_of, tuple_at}
use Rattle.plain_model.specs.Replicas.{Replica, entries_of_batch}
use Rattle.plain_model.specs.Fold.{entries_below, replica_after, reply_to, state_below}
use Rattle.protocol.specs.Lines.{Line}
use Rattle.line_rules.specs.Scanners.{book, learned}

-- ---- states

-- the replica is what the fold keeps of the entries below the tuple, all of which are in the book
pub record IsStateAt (c : Config) (lines : List Line) (p : PartitionTable) (tuple : List (RingId × ℕ)) (replica : Replica) : Type 0 where
  pub entries : List Entry
  pub below : entries_below (round_sizes c) (learned lines) tuple ≡ Some entries
  pub same : replica ≡ replica_after p entries

-- the bytes are those of the state at the tuple
abbrev pub AreBytesAt : Config → List Line → PartitionTable → List (RingId × ℕ) → List ℕ → Type 0
AreBytesAt c lines p tuple bytes = state_below (round_sizes c) (learned lines) p tuple ≡ Some bytes

-- a front of them, or none at all
pub record IsFrontAt (c : Config) (lines : List Line) (p : PartitionTable) (tuple : List (RingId × ℕ)) (bytes : List ℕ) : Type 0 where
  pub rest : List ℕ
  pub whole : AreBytesAt c lines p tuple (bytes ++ rest)

abbrev pub AreGathered : Config → List Line → PartitionTable → List (RingId × ℕ) → List ℕ → Type 0
AreGathered c lines p tuple bytes = (bytes ≡ []) ⊎ IsFrontAt c lines p tuple bytes

-- ---- frames

-- A part of a checkpoint that a replica sent: how many bytes the state at the tuple has, and those of a part from the offset on.
pub record IsPartAt (c : Config) (lines : List Line) (from : NodeId) (tuple : List (RingId × ℕ)) (offset total : ℕ) (bytes : List ℕ) : Type 0 where
  pub partition : PartitionTable
  pub replica : partition_of c.partitions from ≡ Some partition
  pub state : List ℕ
  pub whole : AreBytesAt c lines partition tuple state
  pub total_is : total ≡ length state
  pub within : offset < length state
  pub part : bytes ≡ take (part_size (offset, length state)) (drop offset state)

-- A reply that a replica sent: the book has a batch at a place of its partition's rings, and everything before it; the reply is
-- what the fold replies to the client's entry of this number there, after the entries before it.
pub record IsFoldReply (c : Config) (lines : List Line) (from : NodeId) (client : ClientId) (seq : ℕ) (partition_id : PartitionId) (bytes : List ℕ) : Type 0 where
  pub partition : PartitionTable
  pub replica : partition_of c.partitions from ≡ Some partition
  pub named : partition_id ≡ partition.id
  pub place : Place
  pub subscribed : has_ring partition.rings place.ring.0 ≡ true
  pub batch : List ℕ
  pub holds : book lines place.ring place.inst ≡ Some (Batch batch)
  pub below : List Entry
  pub known : entries_below (round_sizes c) (learned lines) (tuple_at (round_sizes c) partition.rings place) ≡ Some below
  pub front : List Entry
  pub entry : Entry
  pub rest : List Entry
  pub there : entries_of_batch batch ≡ front ++ entry ∷ rest
  pub asker : client ≡ entry.client
  pub number : seq ≡ entry.seq
  pub reply : Answered
  pub replied : reply_to partition (below ++ front) entry ≡ Some reply
  pub spelled : bytes ≡ reply_bytes reply

-- what a node's frame says
abbrev pub BodyFolded : Config → List Line → NodeId → Body → Type 0
BodyFolded c lines from (PartFrame epoch attempt tuple offset total bytes) = IsPartAt c lines from tuple offset total bytes
BodyFolded c lines from (Reply client seq partition reply) = IsFoldReply c lines from client seq partition reply
BodyFolded c lines from other = Unit {0}

abbrev pub PartyFolded : Config → List Line → Party → Body → Type 0
PartyFolded c lines (Node from) body = BodyFolded c lines from body
PartyFolded c lines (Client from) body = Unit {0}

abbrev pub SentFolded : Config → List Line → Sent → Type 0
SentFolded c lines sent = PartyFolded c lines sent.frame.from sent.frame.body
