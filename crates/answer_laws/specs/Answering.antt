-- What makes an answer: what each concerned partition replies to a client's number, wherever in the book it does.
use Rattle.std.specs.Prelude.{◌≡◌, ℕ, ◌++◌, true, false, List, [], ◌∷◌, Some, Ok}
use Rattle.mrp_types.specs.declared.id.ClientId.{ClientId}
use Rattle.mrp_types.specs.declared.id.PartitionId.{PartitionId}
use Rattle.mrp_types.specs.declared.id.RingId.{RingId}
use Rattle.mrp_types.specs.declared.place.Place.{Place}
use Rattle.mrp_types.specs.declared.value.Entry.{Entry}
use Rattle.mrp_types.specs.declared.value.Value.{Value}
use Rattle.mrp_types.specs.Book.{Learning, book_of}
use Rattle.command_codec.specs.declared.command.Command.{Command}
use Rattle.command_codec.specs.declared.reply.Reply.{Reply}
use Rattle.command_codec.specs.Grammar.{command_of}
use Rattle.command_codec.specs.Replies.{reply_bytes}
use Rattle.mrp_config.specs.declared.tables.PartitionTable.{PartitionTable}
use Rattle.mrp_config.specs.Config.{Config, has_ring, partition_at}
use Rattle.mrp_config.specs.Routing.{concerned_of}
use Rattle.quorums.specs.Groups.{Has}
use Rattle.plain_model.specs.Tuples.{round_sizes, is_tuple_of, tuple_at}
use Rattle.plain_model.specs.Fold.{entries_of_value, entries_below, answered_of, reply_in, has_shown, asked_in, before_asked, entries_at_place, place_of_asked}

-- A partition replies so to a client's number: at some tuple of its rings, all of whose places are in the book, one of the counted
-- entries below is of this client and number, and has this reply.
pub record RepliesTo (c : Config) (known : List Learning) (client : ClientId) (seq : ℕ) (p : PartitionTable) (reply : Reply) : Type 0 where
  pub tuple : List (RingId × ℕ)
  pub valid : is_tuple_of (round_sizes c) p.rings tuple ≡ true
  pub entries : List Entry
  pub below : entries_below (round_sizes c) known tuple ≡ Some entries
  pub counted : reply_in client seq (answered_of p entries) ≡ Some reply

-- each of some partitions has its reply, in their order
abbrev pub AreReplies : Config → List Learning → ClientId → ℕ → List PartitionTable → List Reply → Type 0
AreReplies c known client seq [] [] = Unit {0}
AreReplies c known client seq (p ∷ ps) (reply ∷ replies) = RepliesTo c known client seq p reply × AreReplies c known client seq ps replies
AreReplies c known client seq ps replies = ⊥

-- the bytes that a partition replies, by its number
pub record IsReplyOf (c : Config) (known : List Learning) (client : ClientId) (seq : ℕ) (partition : PartitionId) (bytes : List ℕ) : Type 0 where
  pub table : PartitionTable
  pub there : partition_at c.partitions partition.0 ≡ Some table
  pub reply : Reply
  pub replies : RepliesTo c known client seq table reply
  pub spelled : bytes ≡ reply_bytes reply

-- all that the book has of a client's number is this command on this ring
abbrev pub IsAskedOnce : List Learning → ClientId → ℕ → RingId → Command → Type 0
IsAskedOnce known client seq ring command =
    (place : Place) (value : Value) (e : Entry) → book_of known place.ring place.inst ≡ Some value → Has (entries_of_value value) e → e.client.0 ≡ client.0 → e.seq ≡ seq
    → (place.ring ≡ ring) × (command_of e.command ≡ Ok command)

-- The first entry of a client's number stands at this place. A partition subscribes to its ring, has all its places before this
-- one in the book, and none of the entries there, and none before it in its batch, has this number of the client or a greater one.
pub record IsInPlace (c : Config) (known : List Learning) (client : ClientId) (seq : ℕ) (place : Place) (p : PartitionTable) : Type 0 where
  pub entry : Entry
  pub asked : asked_in client seq (entries_at_place known place) ≡ Some entry
  pub subscribes : has_ring p.rings place.ring.0 ≡ true
  pub below : List Entry
  pub known_below : entries_below (round_sizes c) known (tuple_at (round_sizes c) p.rings place) ≡ Some below
  pub newest : has_shown p client seq (below ++ before_asked client seq (entries_at_place known place)) ≡ false

-- so it is of all concerned partitions, at one place
pub record AreInPlace (c : Config) (known : List Learning) (client : ClientId) (seq : ℕ) (command : Command) : Type 0 where
  pub place : Place
  pub first : place_of_asked (round_sizes c) known client seq ≡ Some place
  pub each : (p : PartitionTable) → Has (concerned_of command c.partitions) p → IsInPlace c known client seq place p
