-- What a partition's entries mean, over plain lists: which of them count, what the logs and the table hold after them, what is
-- replied, the state, and what a client is answered. Nothing here is kept from one entry to the next.
use Rattle.std.specs.Prelude.{ℕ, zero, suc, ◌+◌, ◌-◌, ◌==◌, nat_le, nat_lt, max, Bool, true, false, not, ◌&&◌, ◌||◌, if◌then◌else◌, List, [], ◌∷◌, ◌++◌, map, filter, filter_map, drop, take_while, find, bytes_eq, is_some, option_map, Option, Some, None, Result, Ok, Err}
use Rattle.mrp_types.specs.declared.id.ClientId.{ClientId}
use Rattle.mrp_types.specs.declared.id.LogId.{LogId}
use Rattle.mrp_types.specs.declared.id.RingId.{RingId}
use Rattle.mrp_types.specs.declared.place.Place.{Place}
use Rattle.mrp_types.specs.declared.value.Entry.{Entry}
use Rattle.mrp_types.specs.declared.value.Value.{Value}
use Rattle.mrp_types.specs.declared.value.Value.TheVariants.{Skip, Batch}
use Rattle.mrp_types.specs.Book.{Learning, book_of}
use Rattle.mrp_types.specs.Places.{place_lt}
use Rattle.command_codec.specs.declared.command.Command.{Command}
use Rattle.command_codec.specs.declared.command.Command.TheVariants.{Append, Multi, ReadLog, TrimLog, Get, Scan, Update, Insert, Delete, Swap}
use Rattle.command_codec.specs.declared.reply.TableEntry.{TableEntry}
use Rattle.command_codec.specs.declared.reply.Reply.{Reply}
use Rattle.command_codec.specs.declared.reply.Reply.TheVariants as replies
use Rattle.command_codec.specs.declared.fault.CodecFault.{CodecFault}
use Rattle.command_codec.specs.Grammar.{command_of}
use Rattle.command_codec.specs.Replies.{reply_bytes, joined}
use Rattle.mrp_config.specs.declared.tables.PartitionTable.{PartitionTable}
use Rattle.mrp_config.specs.Config.{Config, has_log, has_ring}
use Rattle.mrp_config.specs.Routing.{is_before, is_concerned, concerned_of}
use Rattle.plain_model.specs.Tuples.{round_sizes, first_tuple, next_place, past, tuple_at}
pub use Rattle.mrp_types.specs.Moves.{count_below, rings_of}
use Rattle.plain_model.specs.Replicas.{LogState, Session, Replica, log_length, log_at, ends_of, read_at, value_of, value_or_absent, page_of, scanned, has_no_room, entries_of_batch}
use Rattle.plain_model.specs.StateBytes.{state_bytes}

-- ---- entries below a tuple

-- the entries of a value; of none, none is known
abbrev pub entries_of_value : Value → List Entry
entries_of_value Skip = []
entries_of_value (Batch batch) = entries_of_batch batch

abbrev pub entries_in_book : Option Value → Option (List Entry)
entries_in_book None = None
entries_in_book (Some value) = Some (entries_of_value value)

-- both lists, where both are known
abbrev pub both_known : Option (List Entry) → Option (List Entry) → Option (List Entry)
both_known (Some xs) (Some ys) = Some (xs ++ ys)
both_known xs ys = None

-- the entries at a place
abbrev pub entries_known : List Learning → RingId × ℕ → Option (List Entry)
entries_known known place = entries_in_book (book_of known place.0 place.1)

-- the entries at the next n places of a tuple's rings, in the one order; nothing where one of the places isn't in the book
abbrev pub entries_of_next : (ℕ → ℕ) → List Learning → ℕ → List (RingId × ℕ) → Option (List Entry)
entries_of_next m known zero tuple = Some []
entries_of_next m known (suc n) tuple = both_known (entries_known known (next_place m tuple)) (entries_of_next m known n (past m tuple))

-- The entries at the places below a valid tuple, in the one order, and within a value in its own order. These places are the
-- first of all places of the tuple's rings.
unfoldable pub entries_below : (ℕ → ℕ) → List Learning → List (RingId × ℕ) → Option (List Entry)
entries_below m known tuple = entries_of_next m known (count_below tuple) (first_tuple (rings_of tuple))

-- ---- which entries count

-- the command that an entry has for the partition: its bytes are one that concerns it
abbrev pub concerning : PartitionTable → Result Command CodecFault → Option Command
concerning p (Err fault) = None
concerning p (Ok command) = if is_concerned command p then Some command else None

abbrev pub command_for : PartitionTable → Entry → Option Command
command_for p e = concerning p (command_of e.command)

abbrev pub concerns : PartitionTable → Entry → Bool
concerns p e = is_some (command_for p e)

-- whether one of these entries, of those that concern the partition, is of this client and has this number or a greater one
abbrev pub has_shown : PartitionTable → ClientId → ℕ → List Entry → Bool
has_shown p client seq [] = false
has_shown p client seq (e ∷ es) = (concerns p e && ((e.client.0 == client.0) && nat_le seq e.seq)) || has_shown p client seq es

-- An entry counts where it concerns the partition and no earlier entry of its client that does has an equal or greater number.
abbrev pub counts_after : PartitionTable → List Entry → Entry → Bool
counts_after p before e = concerns p e && not (has_shown p e.client e.seq before)

abbrev pub first_if : Bool → Entry → List Entry → List Entry
first_if counts e es = if counts then e ∷ es else es

abbrev pub counted_after : PartitionTable → List Entry → List Entry → List Entry
counted_after p before [] = []
counted_after p before (e ∷ es) = first_if (counts_after p before e) e (counted_after p (before ++ e ∷ []) es)

-- the counted entries of a list, in order
abbrev pub counted_entries : PartitionTable → List Entry → List Entry
counted_entries p es = counted_after p [] es

-- ---- logs and table after counted entries with their replies

-- a counted entry, its command, and the reply to it
pub record Answered : Type 0 where
  pub entry : Entry
  pub command : Command
  pub reply : Reply

abbrev pub is_limit : Reply → Bool
is_limit replies.Limit = true
is_limit other = false

abbrev pub is_done : Reply → Bool
is_done replies.Done = true
is_done other = false

-- the value that a command adds to a log
abbrev pub added_to : LogId → Command → Option (List ℕ)
added_to log (Append named value) = if named.0 == log.0 then Some value else None
added_to log (Multi named value) = if has_log named log.0 then Some value else None
added_to log other = None

-- the values of a log from its first on: those of the effective appends to it, in order
abbrev pub values_of : LogId → List Answered → List (List ℕ)
values_of log answered = filter_map (λ (a : Answered). if is_limit a.reply then None else added_to log a.command) answered

-- where a trim of this log that was done cuts, else 0
abbrev pub cut_of : LogId → Command → Reply → ℕ
cut_of log (TrimLog named position) replies.Done = if named.0 == log.0 then position else 0
cut_of log command reply = 0

-- the greatest position of a trim of the log that was done, or 0
abbrev pub trim_of : LogId → List Answered → ℕ
trim_of log [] = 0
trim_of log (a ∷ answered) = max (cut_of log a.command a.reply) (trim_of log answered)

-- what a command that was done leaves under a key: nothing said where it is of another kind or key, else a value or none
abbrev pub left_under : List ℕ → Command → Option (Option (List ℕ))
left_under key (Insert named value) = if bytes_eq named key then Some (Some value) else None
left_under key (Update named value) = if bytes_eq named key then Some (Some value) else None
left_under key (Delete named) = if bytes_eq named key then Some None else None
left_under key (Swap named old new) = if bytes_eq named key then Some (Some new) else None
left_under key other = None

abbrev pub left_by : List ℕ → Answered → Option (Option (List ℕ))
left_by key a = if is_done a.reply then left_under key a.command else None

abbrev pub or_before : Option (Option (List ℕ)) → Option (List ℕ) → Option (List ℕ)
or_before None before = before
or_before (Some left) before = left

-- what the last insert, update, swap or delete of the key that was done left, where before them there was this
abbrev pub held_after : List ℕ → Option (List ℕ) → List Answered → Option (List ℕ)
held_after key before [] = before
held_after key before (a ∷ answered) = held_after key (or_before (left_by key a) before) answered

abbrev pub held_under : List ℕ → List Answered → Option (List ℕ)
held_under key answered = held_after key None answered

-- the key among increasing ones, once
abbrev pub with_key : List ℕ → List (List ℕ) → List (List ℕ)
with_key key [] = key ∷ []
with_key key (other ∷ keys) = if bytes_eq key other then other ∷ keys else if is_before key other then key ∷ other ∷ keys else other ∷ with_key key keys

abbrev pub key_of_command : Command → Option (List ℕ)
key_of_command (Insert key value) = Some key
key_of_command other = None

abbrev pub with_key_of : Option (List ℕ) → List (List ℕ) → List (List ℕ)
with_key_of None keys = keys
with_key_of (Some key) keys = with_key key keys

-- the key that an insert brought in
abbrev pub key_brought : Answered → Option (List ℕ)
key_brought a = if is_done a.reply then key_of_command a.command else None

-- the keys that were ever brought in, in increasing order, with these before
abbrev pub keys_after : List (List ℕ) → List Answered → List (List ℕ)
keys_after keys [] = keys
keys_after keys (a ∷ answered) = keys_after (with_key_of (key_brought a) keys) answered

abbrev pub keys_of : List Answered → List (List ℕ)
keys_of answered = keys_after [] answered

-- the keys that have a value, in increasing order, with their values
abbrev pub entry_under : List ℕ → List Answered → Option TableEntry
entry_under key answered = option_map (λ (value : List ℕ). record { key = key; value = value }) (held_under key answered)

abbrev pub table_of : List Answered → List TableEntry
table_of answered = filter_map (λ (key : List ℕ). entry_under key answered) (keys_of answered)

-- a log: its trim, and the values from there on
abbrev pub kept_from : LogId → ℕ → List (List ℕ) → LogState
kept_from log trim values = record { id = log; trim = trim; values = drop trim values }

abbrev pub log_of : LogId → List Answered → LogState
log_of log answered = kept_from log (trim_of log answered) (values_of log answered)

-- the partition's logs
abbrev pub logs_of : PartitionTable → List Answered → List LogState
logs_of p answered = map (λ (log : LogId). log_of log answered) p.logs

-- ---- replies

abbrev pub trim_reply : ℕ → LogState → Reply
trim_reply position log = if nat_lt (log_length log) position then replies.Beyond (log_length log) else replies.Done

abbrev pub done_where : Bool → Reply → Reply
done_where there other = if there then replies.Done else other

-- a swap is done where the key has the old value, and tells the value where it is another one
abbrev pub swap_reply : Option (List ℕ) → List ℕ → Reply
swap_reply None old = replies.Absent
swap_reply (Some value) old = if bytes_eq value old then replies.Done else replies.Differs value

-- the reply to a command that has room, over the logs and the table before it
abbrev pub reply_with_room : Command → List LogState → List TableEntry → Reply
reply_with_room (Append log value) logs table = replies.Positions (ends_of (log ∷ []) logs)
reply_with_room (Multi named value) logs table = replies.Positions (ends_of named logs)
reply_with_room (ReadLog log position) logs table = read_at position (log_at log logs)
reply_with_room (TrimLog log position) logs table = trim_reply position (log_at log logs)
reply_with_room (Get key) logs table = value_or_absent (value_of key table)
reply_with_room (Scan from to) logs table = page_of (scanned from to table)
reply_with_room (Update key value) logs table = done_where (is_some (value_of key table)) replies.Absent
reply_with_room (Insert key value) logs table = done_where (not (is_some (value_of key table))) replies.Exists
reply_with_room (Delete key) logs table = done_where (is_some (value_of key table)) replies.Absent
reply_with_room (Swap key old new) logs table = swap_reply (value_of key table) old

-- whether logs and table have no room for what these entries with their replies leave
abbrev pub overfill : PartitionTable → List Answered → Bool
overfill p answered = has_no_room (logs_of p answered) (table_of answered)

-- the reply, or Limit where the command with this reply would leave too much
abbrev pub or_limit : PartitionTable → List Answered → Entry → Command → Reply → Reply
or_limit p before e command reply = if overfill p (before ++ record { entry = e; command = command; reply = reply } ∷ []) then replies.Limit else reply

-- the reply to the counted entry that comes after these
unfoldable pub reply_after : PartitionTable → List Answered → Entry → Command → Reply
reply_after p before e command = or_limit p before e command (reply_with_room command (logs_of p before) (table_of before))

abbrev pub with_answer : PartitionTable → List Answered → Entry → Option Command → List Answered
with_answer p before e None = before
with_answer p before e (Some command) = before ++ record { entry = e; command = command; reply = reply_after p before e command } ∷ []

-- each of some counted entries with its reply, after those that have one
abbrev pub answered_after : PartitionTable → List Answered → List Entry → List Answered
answered_after p before [] = before
answered_after p before (e ∷ es) = answered_after p (with_answer p before e (command_for p e)) es

-- the counted ones of some entries, each with its reply
abbrev pub answered_of : PartitionTable → List Entry → List Answered
answered_of p es = answered_after p [] (counted_entries p es)

-- ---- what an entry gets

-- whether an entry concerns the partition, and no earlier one of its client has a greater number
abbrev pub is_newest_after : PartitionTable → List Entry → Entry → Bool
is_newest_after p before e = concerns p e && not (has_shown p e.client (e.seq + 1) before)

abbrev pub is_of : ClientId → ℕ → Answered → Bool
is_of client seq a = (a.entry.client.0 == client.0) && (a.entry.seq == seq)

abbrev pub reply_in : ClientId → ℕ → List Answered → Option Reply
reply_in client seq answered = option_map (λ (a : Answered). a.reply) (find (is_of client seq) answered)

-- The reply to the entry that comes after these: a counted one has its own, and one with the greatest number that its client has
-- shown gets that of the counted entry with this number. Every other gets none.
unfoldable pub reply_to : PartitionTable → List Entry → Entry → Option Reply
reply_to p before e = if is_newest_after p before e then reply_in e.client e.seq (answered_of p (before ++ e ∷ [])) else None

-- ---- the state

-- the last of a client's counted entries
abbrev pub last_of : ClientId → List Answered → Option Answered → Option Answered
last_of client [] last = last
last_of client (a ∷ answered) last = last_of client answered (if a.entry.client.0 == client.0 then Some a else last)

abbrev pub session_from : Answered → Session
session_from a = record { client = a.entry.client; seq = a.entry.seq; reply = reply_bytes a.reply }

-- a client among increasing ones, once
abbrev pub with_client : ClientId → List ClientId → List ClientId
with_client client [] = client ∷ []
with_client client (other ∷ clients) =
    if client.0 == other.0 then other ∷ clients
    else if nat_lt client.0 other.0 then client ∷ other ∷ clients
    else other ∷ with_client client clients

-- the clients of some counted entries, in increasing order, with these before
abbrev pub clients_after : List ClientId → List Answered → List ClientId
clients_after clients [] = clients
clients_after clients (a ∷ answered) = clients_after (with_client a.entry.client clients) answered

abbrev pub clients_of : List Answered → List ClientId
clients_of answered = clients_after [] answered

-- each client with its greatest counted number, which is that of its last counted entry, and the reply to it
abbrev pub sessions_of : List Answered → List Session
sessions_of answered = filter_map (λ (client : ClientId). option_map session_from (last_of client answered None)) (clients_of answered)

-- what a replica keeps after these entries
unfoldable pub replica_of : PartitionTable → List Answered → Replica
replica_of p answered = record { sessions = sessions_of answered; logs = logs_of p answered; table = table_of answered }

abbrev pub replica_after : PartitionTable → List Entry → Replica
replica_after p es = replica_of p (answered_of p es)

-- the bytes of the state at a tuple, where all places below it are in the book
abbrev pub state_below : (ℕ → ℕ) → List Learning → PartitionTable → List (RingId × ℕ) → Option (List ℕ)
state_below m known p tuple = option_map (λ (es : List Entry). state_bytes (replica_after p es)) (entries_below m known tuple)

-- ---- the answer

abbrev pub is_asked : ClientId → ℕ → Entry → Bool
is_asked client seq e = (e.client.0 == client.0) && (e.seq == seq)

-- the entries before the first that the client asked under the number
abbrev pub before_asked : ClientId → ℕ → List Entry → List Entry
before_asked client seq es = take_while (λ (e : Entry). not (is_asked client seq e)) es

abbrev pub asked_in : ClientId → ℕ → List Entry → Option Entry
asked_in client seq es = find (is_asked client seq) es

abbrev pub known_entries : Option Value → List Entry
known_entries None = []
known_entries (Some value) = entries_of_value value

-- the entries that the book has at a place
abbrev pub entries_at_place : List Learning → Place → List Entry
entries_at_place known place = known_entries (book_of known place.ring place.inst)

abbrev pub place_with : RingId → ℕ → Place
place_with ring inst = record { ring = ring; inst = inst }

-- n instances of a ring from this one on
abbrev pub places_from : RingId → ℕ → ℕ → List Place
places_from ring lo zero = []
places_from ring lo (suc n) = place_with ring lo ∷ places_from ring (suc lo) n

-- the places of which a learning of a batch speaks; no entry stands at those of a Skip
abbrev pub places_of_batch : RingId → ℕ → ℕ → Value → List Place
places_of_batch ring lo hi Skip = []
places_of_batch ring lo hi (Batch batch) = places_from ring lo (hi - lo)

abbrev pub batch_places : List Learning → List Place
batch_places [] = []
batch_places (l ∷ known) = places_of_batch l.ring l.lo l.hi l.value ++ batch_places known

abbrev pub first_place : (ℕ → ℕ) → Place → Option Place → Place
first_place m place None = place
first_place m place (Some other) = if place_lt m other place then other else place

-- the first of some places in the one order
abbrev pub first_of_places : (ℕ → ℕ) → List Place → Option Place
first_of_places m [] = None
first_of_places m (place ∷ places) = Some (first_place m place (first_of_places m places))

-- the first place in the one order whose batch has the client's entry of the number
abbrev pub place_of_asked : (ℕ → ℕ) → List Learning → ClientId → ℕ → Option Place
place_of_asked m known client seq =
    first_of_places m (filter (λ (place : Place). is_some (asked_in client seq (entries_at_place known place))) (batch_places known))

-- what a partition replies to an entry of the batch at a place, where it subscribes to the ring and all its places before are in the book
abbrev pub reply_there : PartitionTable → Option (List Entry) → List Entry → Entry → Option Reply
reply_there p None before e = None
reply_there p (Some below) before e = reply_to p (below ++ before) e

abbrev pub part_at : (ℕ → ℕ) → List Learning → Place → List Entry → Entry → PartitionTable → Option Reply
part_at m known place before e p =
    if has_ring p.rings place.ring.0 then reply_there p (entries_below m known (tuple_at m p.rings place)) before e else None

abbrev pub with_part : Option Reply → Option (List Reply) → Option (List Reply)
with_part (Some part) (Some parts) = Some (part ∷ parts)
with_part part parts = None

-- the replies of all these partitions, in order
abbrev pub parts_at : (ℕ → ℕ) → List Learning → Place → List Entry → Entry → List PartitionTable → Option (List Reply)
parts_at m known place before e [] = Some []
parts_at m known place before e (p ∷ ps) = with_part (part_at m known place before e p) (parts_at m known place before e ps)

abbrev pub concerned_by : Config → Result Command CodecFault → List PartitionTable
concerned_by config (Err fault) = []
concerned_by config (Ok command) = concerned_of command config.partitions

-- the replies of the concerned partitions, of which there is one at least
abbrev pub joined_parts : Option (List Reply) → Option (List ℕ)
joined_parts (Some (part ∷ parts)) = Some (reply_bytes (joined (part ∷ parts)))
joined_parts other = None

abbrev pub answer_at : Config → List Learning → Place → List Entry → Option Entry → Option (List ℕ)
answer_at config known place before None = None
answer_at config known place before (Some e) =
    joined_parts (parts_at (round_sizes config) known place before e (concerned_by config (command_of e.command)))

abbrev pub answer_in : Config → List Learning → ClientId → ℕ → Place → List Entry → Option (List ℕ)
answer_in config known client seq place es = answer_at config known place (before_asked client seq es) (asked_in client seq es)

abbrev pub answer_from : Config → List Learning → ClientId → ℕ → Option Place → Option (List ℕ)
answer_from config known client seq None = None
answer_from config known client seq (Some place) = answer_in config known client seq place (entries_at_place known place)

-- The answer to a client's number: at the first place in the one order whose batch has an entry of it, and there at the first such
-- entry, the replies of the concerned partitions in their order, joined.
unfoldable pub answer_of : Config → List Learning → ClientId → ℕ → Option (List ℕ)
answer_of config known client seq = answer_from config known client seq (place_of_asked (round_sizes config) known client seq)
