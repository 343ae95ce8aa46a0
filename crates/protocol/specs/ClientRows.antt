-- Worked examples of a client.
use Rattle.std.specs.Prelude.{ℕ, false, List, [], ◌∷◌, ◌++◌, codes}
use Rattle.mrp_types.specs.declared.id.NodeId.{NodeId}
use Rattle.mrp_types.specs.declared.id.Party.TheVariants.{Node, Client}
use Rattle.mrp_types.specs.declared.id.PartitionId.{PartitionId}
use Rattle.command_codec.specs.declared.command.Command.{Command}
use Rattle.command_codec.specs.declared.command.Command.TheVariants.{Append, Scan}
use Rattle.command_codec.specs.declared.reply.Reply.{Reply}
use Rattle.command_codec.specs.declared.reply.Reply.TheVariants as replies
use Rattle.command_codec.specs.Replies.{reply_bytes}
use Rattle.mrp_config.specs.declared.tables.RingTable.{RingTable}
use Rattle.mrp_config.specs.Config.{Config}
use Rattle.frames.specs.declared.body.Body.TheVariants as bodies
use Rattle.frames.specs.declared.sent.Sent.{Sent}
use Rattle.plain_model.specs.Rows.{ring, client, log, both_parts}
use Rattle.protocol.specs.Client.{ClientView, ClientEffects, new_client, asks, client_ticks, client_takes}

abbrev pub node : ℕ → NodeId
node n = record { 0 = n }

abbrev pub partition : ℕ → PartitionId
partition n = record { 0 = n }

abbrev pub ring_of : ℕ → List NodeId → RingTable
ring_of n acceptors = record { id = ring n; acceptors = acceptors; m = 1 }

-- keys below m with log 0 on rings 0 and 2, and the others with log 1 on rings 1 and 2; a command is sent again every fourth tick
abbrev pub two_parts : Config
two_parts = record both_parts {
  rings =
      ring_of 0 (node 0 ∷ node 1 ∷ node 2 ∷ []) ∷ ring_of 1 (node 1 ∷ node 2 ∷ node 0 ∷ []) ∷ ring_of 2 (node 2 ∷ node 0 ∷ node 1 ∷ []) ∷ [];
}

-- what happens to a client: it asks, its clock ticks, or a partition replies to a number of it
pub data Happening : Type 0 where
  Asks : Command → Happening
  Ticks : Happening
  Replies : (partition seq : ℕ) → Reply → Happening

abbrev pub applies_effects : ClientView → Happening → ClientEffects
applies_effects c (Asks command) = asks two_parts c command
applies_effects c Ticks = client_ticks two_parts c
applies_effects c (Replies number seq reply) = client_takes two_parts c (bodies.Reply c.id seq (partition number) (reply_bytes reply))

-- both, one after the other
abbrev pub and_then : ClientEffects → ClientEffects → ClientEffects
and_then done next = record { client = next.client; frames = done.frames ++ next.frames; lines = done.lines ++ next.lines }

abbrev pub applies_effects_after : ClientEffects → List Happening → ClientEffects
applies_effects_after done [] = done
applies_effects_after done (x ∷ xs) = applies_effects_after (and_then done (applies_effects done.client x)) xs

-- what client 0 makes of these
abbrev pub applies_effects_all : List Happening → ClientEffects
applies_effects_all xs = applies_effects_after (record { client = new_client (client 0); frames = []; lines = [] }) xs

-- the Submit of its number 1 on a ring to a node
abbrev pub first_submit : ℕ → ℕ → List ℕ → Sent
first_submit to number command = record { to = Node (node to); frame = record { from = Client (client 0); body = bodies.Submit (ring number) 0 (client 0) 1 command } }

abbrev pub append_hi : Command
append_hi = Append (log 0) (codes "hi")

abbrev pub hi_bytes : List ℕ
hi_bytes = 1 ∷ 0 ∷ 0 ∷ 2 ∷ 104 ∷ 105 ∷ []

abbrev pub scan_all : Command
scan_all = Scan [] []

abbrev pub scan_bytes : List ℕ
scan_bytes = 6 ∷ 0 ∷ 0 ∷ 0 ∷ 0 ∷ []

abbrev pub one_entry : List ℕ → List ℕ → Reply
one_entry key value = replies.Entries false (record { key = key; value = value } ∷ [])

abbrev pub at_log_0 : ℕ → Reply
at_log_0 position = replies.Positions (record { log = log 0; position = position } ∷ [])
