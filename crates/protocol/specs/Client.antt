-- A client: it asks one command at a time, sends it again until it is answered, and joins what the partitions reply.
use Rattle.std.specs.Prelude.{ℕ, ◌+◌, ◌%◌, ◌^◌, ◌==◌, nat_lt, Bool, true, false, not, ◌&&◌, ◌||◌, if◌then◌else◌, List, [], ◌∷◌, length, map, slice_get, Option, Some, None, Result, Ok, Err}
use Rattle.mrp_types.specs.declared.id.ClientId.{ClientId}
use Rattle.mrp_types.specs.declared.id.NodeId.{NodeId}
use Rattle.mrp_types.specs.declared.id.RingId.{RingId}
use Rattle.mrp_types.specs.declared.id.LogId.{LogId}
use Rattle.mrp_types.specs.declared.id.PartitionId.{PartitionId}
use Rattle.mrp_types.specs.declared.id.Party.TheVariants.{Node, Client}
use Rattle.command_codec.specs.declared.command.Command.{Command}
use Rattle.command_codec.specs.declared.command.Command.TheVariants.{Append, Multi, Scan}
use Rattle.command_codec.specs.declared.reply.LogPosition.{LogPosition}
use Rattle.command_codec.specs.declared.reply.TableEntry.{TableEntry}
use Rattle.command_codec.specs.declared.reply.Reply.{Reply}
use Rattle.command_codec.specs.declared.reply.Reply.TheVariants as replies
use Rattle.command_codec.specs.declared.fault.CodecFault.{CodecFault}
use Rattle.hex.specs.Hex.{IsBytes}
use Rattle.command_codec.specs.Spelling.{command_bytes}
use Rattle.command_codec.specs.Valid.{IsCommand, HasNumbers}
use Rattle.command_codec.specs.Grammar.{reply_of}
use Rattle.command_codec.specs.Replies.{reply_bytes, joined}
use Rattle.mrp_config.specs.declared.tables.RingTable.{RingTable}
use Rattle.mrp_config.specs.declared.tables.PartitionTable.{PartitionTable}
use Rattle.mrp_config.specs.declared.routing.NoGroup.{NoGroup}
use Rattle.mrp_config.specs.Config.{Config, ring_at, partition_at, has_log}
use Rattle.mrp_config.specs.Routing.{is_within, is_concerned, concerned_of, route_of}
use Rattle.frames.specs.declared.body.Body.{Body}
use Rattle.frames.specs.declared.body.Body.TheVariants as bodies
use Rattle.frames.specs.declared.sent.Sent.{Sent}
use Rattle.protocol.specs.Lines.{Line}
use Rattle.protocol.specs.Lines.{Answer, Busy}

-- A command without its answer: its number and ring, how many ticks passed since it was asked, how often it was sent again, and
-- the replies of the partitions that replied, by partition.
pub record Asked : Type 0 where
  pub seq : ℕ
  pub command : Command
  pub ring : RingId
  pub ticks : ℕ
  pub tries : ℕ
  pub parts : List (PartitionId × Reply)

-- a client, the number of its next command, and what it waits for
pub record ClientView : Type 0 where
  pub id : ClientId
  pub next : ℕ
  pub asked : Option Asked

-- what a client makes of an event
pub record ClientEffects : Type 0 where
  pub client : ClientView
  pub frames : List Sent
  pub lines : List Line

-- the first command has this number
abbrev pub client_from : ClientId → ℕ → ClientView
client_from id seq = record { id = id; next = seq; asked = None }

-- the first command has the number 1
abbrev pub new_client : ClientId → ClientView
new_client id = client_from id 1

-- nothing happens
abbrev pub idles : ClientView → ClientEffects
idles c = record { client = c; frames = []; lines = [] }

-- ---- sending

abbrev pub submit : ClientView → Asked → Body
submit c a = bodies.Submit a.ring 0 c.id a.seq (command_bytes a.command)

abbrev pub submit_to : ClientView → Asked → Option NodeId → List Sent
submit_to c a None = []
submit_to c a (Some node) = record { to = Node node; frame = record { from = Client c.id; body = submit c a } } ∷ []

-- the acceptor whose turn it is: each try goes to the next one, round and round
abbrev pub acceptor_at : ℕ → List NodeId → Option NodeId
acceptor_at tries nodes = slice_get nodes (tries % length nodes)

abbrev pub acceptors_of : Option RingTable → List NodeId
acceptors_of None = []
acceptors_of (Some ring) = ring.acceptors

-- the Submit of a command, with hops 0, to the acceptor of its ring whose turn it is
abbrev pub submits : Config → ClientView → Asked → List Sent
submits config c a = submit_to c a (acceptor_at a.tries (acceptors_of (ring_at config.rings a.ring.0)))

-- a client waits for this, and sends it
abbrev pub sends_it : Config → ClientView → Asked → ClientEffects
sends_it config c a = record { client = record c { asked = Some a }; frames = submits config c a; lines = [] }

-- ---- asking

-- A command that a client may be told to ask: it has a spelling, of bytes, and its numbers are below 2 ^ 64, as those of the
-- code are.
pub record MayBeAsked (command : Command) : Type 0 where
  pub valid : IsCommand command
  pub numbers : HasNumbers command
  pub bytes : IsBytes (command_bytes command)

abbrev pub asked_first : ℕ → Command → RingId → Asked
asked_first seq command ring = record { seq = seq; command = command; ring = ring; ticks = 0; tries = 0; parts = [] }

-- A command that no ring orders isn't asked, and neither is one whose number would be 2 ^ 63. Any other takes the next number.
abbrev pub asks_on : Config → ClientView → Command → Result RingId NoGroup → ClientEffects
asks_on config c command (Err none) = idles c
asks_on config c command (Ok ring) =
    if nat_lt c.next (2 ^ 63) then sends_it config (record c { next = c.next + 1 }) (asked_first c.next command ring) else idles c

-- a client that waits is busy with that number
abbrev pub asks_beside : Config → ClientView → Command → Option Asked → ClientEffects
asks_beside config c command (Some a) = record { client = c; frames = []; lines = Busy c.id a.seq ∷ [] }
asks_beside config c command None = asks_on config c command (route_of (concerned_of command config.partitions))

-- the client asks a command
unfoldable pub asks : Config → ClientView → Command → ClientEffects
asks config c command = asks_beside config c command c.asked

-- ---- ticks

-- at each resend-th tick since it was asked the command is sent again, as one more try
abbrev pub ticked : Config → ClientView → Asked → ClientEffects
ticked config c a =
    if a.ticks % config.resend == 0 then sends_it config c (record a { tries = a.tries + 1 }) else idles (record c { asked = Some a })

abbrev pub ticks_for : Config → ClientView → Option Asked → ClientEffects
ticks_for config c None = idles c
ticks_for config c (Some a) = ticked config c (record a { ticks = a.ticks + 1 })

-- a tick of the client's clock
unfoldable pub client_ticks : Config → ClientView → ClientEffects
client_ticks config c = ticks_for config c c.asked

-- ---- replies that fit

-- whether these are positions of exactly these logs, in order
abbrev pub are_positions_of : List LogId → List LogPosition → Bool
are_positions_of [] [] = true
are_positions_of (log ∷ logs) (position ∷ positions) = (log.0 == position.log.0) && are_positions_of logs positions
are_positions_of logs positions = false

-- the partition's own of these logs
abbrev pub own_of : PartitionTable → List LogId → List LogId
own_of p [] = []
own_of p (log ∷ logs) = if has_log p.logs log.0 then log ∷ own_of p logs else own_of p logs

-- whether all keys are in both ranges
abbrev pub are_keys_of : PartitionTable → List ℕ → List ℕ → List TableEntry → Bool
are_keys_of p from to [] = true
are_keys_of p from to (entry ∷ entries) = is_within from to entry.key && (is_within p.from p.to entry.key && are_keys_of p from to entries)

abbrev pub fit_positions : PartitionTable → Command → List LogPosition → Bool
fit_positions p (Append log value) positions = are_positions_of (own_of p (log ∷ [])) positions
fit_positions p (Multi logs value) positions = are_positions_of (own_of p logs) positions
fit_positions p other positions = false

abbrev pub fit_entries : PartitionTable → Command → List TableEntry → Bool
fit_entries p (Scan from to) entries = are_keys_of p from to entries
fit_entries p other entries = false

-- Positions fit an append or a multi-append where they are of the command's logs in the partition, in order; entries fit a scan
-- where their keys are in its range and in the partition's. Every other reply fits.
abbrev pub fits : PartitionTable → Command → Reply → Bool
fits p command (replies.Positions positions) = fit_positions p command positions
fits p command (replies.Entries more entries) = fit_entries p command entries
fits p command other = true

-- ---- replies

-- whether the partition has replied
abbrev pub has_part : List (PartitionId × Reply) → PartitionId → Bool
has_part [] id = false
has_part (part ∷ parts) id = (part.0.0 == id.0) || has_part parts id

-- the part before the first of a greater partition
abbrev pub with_part : PartitionId → Reply → List (PartitionId × Reply) → List (PartitionId × Reply)
with_part id reply [] = (id, reply) ∷ []
with_part id reply (part ∷ parts) = if nat_lt id.0 part.0.0 then (id, reply) ∷ part ∷ parts else part ∷ with_part id reply parts

-- whether each of these partitions has replied
abbrev pub have_all : List PartitionTable → List (PartitionId × Reply) → Bool
have_all [] parts = true
have_all (p ∷ ps) parts = has_part parts p.id && have_all ps parts

-- the partitions that haven't replied yet, in order
abbrev pub missing_of : List PartitionTable → List (PartitionId × Reply) → List PartitionId
missing_of [] parts = []
missing_of (p ∷ ps) parts = if has_part parts p.id then missing_of ps parts else p.id ∷ missing_of ps parts

abbrev pub missing_for : Config → Option Asked → List PartitionId
missing_for config None = []
missing_for config (Some a) = missing_of (concerned_of a.command config.partitions) a.parts

-- The partitions for whose replies the client waits, none where it waits for nothing. No rule of the table asks for it: it is what
-- a program tells that gives up waiting.
abbrev pub missing : Config → ClientView → List PartitionId
missing config c = missing_for config c.asked

-- the answer is the replies, joined in the order of their partitions
abbrev pub answers : ClientView → Asked → ClientEffects
answers c a = record {
  client = record c { asked = None };
  frames = [];
  lines = Answer c.id a.seq (reply_bytes (joined (map (λ (part : PartitionId × Reply). part.1) a.parts))) ∷ [];
}

-- once all concerned partitions have replied the client answers
abbrev pub gathered : Config → ClientView → Asked → ClientEffects
gathered config c a = if have_all (concerned_of a.command config.partitions) a.parts then answers c a else idles (record c { asked = Some a })

-- the reply of a partition that is concerned and hasn't replied; bytes that are no reply, and a reply that doesn't fit, are dropped
abbrev pub replied_with : Config → ClientView → Asked → PartitionTable → Result Reply CodecFault → ClientEffects
replied_with config c a p (Err fault) = idles c
replied_with config c a p (Ok reply) =
    if fits p a.command reply then gathered config c (record a { parts = with_part p.id reply a.parts }) else idles c

-- a reply of a partition that isn't there, isn't concerned or has replied is dropped
abbrev pub replied_by : Config → ClientView → Asked → Option PartitionTable → List ℕ → ClientEffects
replied_by config c a None reply = idles c
replied_by config c a (Some p) reply =
    if is_concerned a.command p && not (has_part a.parts p.id) then replied_with config c a p (reply_of reply) else idles c

-- a reply to another number than the one that is waited for is dropped
abbrev pub replied_for : Config → ClientView → ℕ → PartitionId → List ℕ → Option Asked → ClientEffects
replied_for config c seq partition reply None = idles c
replied_for config c seq partition reply (Some a) =
    if a.seq == seq then replied_by config c a (partition_at config.partitions partition.0) reply else idles c

-- the client is told a reply to its command of a number
unfoldable pub replied : Config → ClientView → ℕ → PartitionId → List ℕ → ClientEffects
replied config c seq partition reply = replied_for config c seq partition reply c.asked

-- a Reply that names another client is dropped, and so is every frame of another kind
unfoldable pub client_takes : Config → ClientView → Body → ClientEffects
client_takes config c (bodies.Reply client seq partition reply) = if client.0 == c.id.0 then replied config c seq partition reply else idles c
client_takes config c other = idles c
