-- What a replica of a partition keeps: for each client its greatest number and the reply to it, the partition's logs, and its
-- table. The rules of the two services stand here, and what a replica makes of an entry.
use Rattle.std.specs.Prelude.{ℕ, suc, ◌+◌, ◌-◌, ◌^◌, ◌==◌, nat_lt, nat_le, max, Bool, false, not, ◌||◌, if◌then◌else◌, List, [], ◌∷◌, ◌++◌, length, map, filter, filter_map, drop, slice_get, sum_by, bytes_eq, Option, Some, None, Result, Ok, Err}
use Rattle.mrp_types.specs.declared.id.ClientId.{ClientId}
use Rattle.mrp_types.specs.declared.id.LogId.{LogId}
use Rattle.mrp_types.specs.declared.value.Entry.{Entry}
use Rattle.command_codec.specs.declared.command.Command.{Command}
use Rattle.command_codec.specs.declared.command.Command.TheVariants.{Append, Multi, ReadLog, TrimLog, Get, Scan, Update, Insert, Delete, Swap}
use Rattle.command_codec.specs.declared.reply.LogPosition.{LogPosition}
use Rattle.command_codec.specs.declared.reply.TableEntry.{TableEntry}
use Rattle.command_codec.specs.declared.reply.Reply.{Reply}
use Rattle.command_codec.specs.declared.reply.Reply.TheVariants.{Positions, Value, Trimmed, Absent, Beyond, Exists, Done, Entries, Limit, Differs}
use Rattle.command_codec.specs.declared.fault.CodecFault.{CodecFault}
use Rattle.command_codec.specs.Grammar.{command_of, batch_of}
use Rattle.command_codec.specs.Replies.{reply_bytes}
use Rattle.mrp_config.specs.declared.tables.PartitionTable.{PartitionTable}
use Rattle.mrp_config.specs.Config.{has_log}
use Rattle.mrp_config.specs.Routing.{is_before, is_within, is_concerned}
use Rattle.plain_model.specs.Pages.{front_within}

-- a client's greatest number, and the bytes of the reply to it
pub record Session : Type 0 where
  pub client : ClientId
  pub seq : ℕ
  pub reply : List ℕ

-- a log: below the trim nothing is kept, and the kept values stand at the positions from the trim on
pub record LogState : Type 0 where
  pub id : LogId
  pub trim : ℕ
  pub values : List (List ℕ)

-- the sessions by client, all logs of the partition by their numbers, and the table by key, all in increasing order
pub record Replica : Type 0 where
  pub sessions : List Session
  pub logs : List LogState
  pub table : List TableEntry

-- ---- replies

-- a value, or that there is none
abbrev pub value_or_absent : Option (List ℕ) → Reply
value_or_absent None = Absent
value_or_absent (Some value) = Value value

-- ---- logs

abbrev pub empty_log : LogId → LogState
empty_log id = record { id = id; trim = 0; values = [] }

-- how many values were added so far
abbrev pub log_length : LogState → ℕ
log_length log = log.trim + length log.values

-- the log of this number
abbrev pub log_at : LogId → List LogState → LogState
log_at id [] = empty_log id
log_at id (log ∷ logs) = if log.id.0 == id.0 then log else log_at id logs

-- the log in the place of the one of its number
abbrev pub with_log : LogState → List LogState → List LogState
with_log new logs = map (λ (log : LogState). if log.id.0 == new.id.0 then new else log) logs

-- each of the named logs has the value at its end
abbrev pub with_value : List ℕ → List LogId → List LogState → List LogState
with_value value named logs = map (λ (log : LogState). if has_log named log.id.0 then record log { values = log.values ++ value ∷ [] } else log) logs

-- the ends of the named logs, in order
abbrev pub ends_of : List LogId → List LogState → List LogPosition
ends_of named logs =
    filter_map (λ (log : LogState). if has_log named log.id.0 then Some (record { log = log.id; position = log_length log }) else None) logs

-- Reading a position: below the trim the trim, at or past the length the length, else the value that stands there.
abbrev pub read_at : ℕ → LogState → Reply
read_at position log =
    if nat_lt position log.trim then Trimmed log.trim
    else if nat_le (log_length log) position then Beyond (log_length log)
    else value_or_absent (slice_get log.values (position - log.trim))

-- the log trimmed to a position; a trim never falls
abbrev pub trimmed_to : ℕ → LogState → LogState
trimmed_to position log = record { id = log.id; trim = max log.trim position; values = drop (position - log.trim) log.values }

-- ---- the table

-- what a key has
abbrev pub value_of : List ℕ → List TableEntry → Option (List ℕ)
value_of key [] = None
value_of key (entry ∷ entries) = if bytes_eq entry.key key then Some entry.value else value_of key entries

-- the table without a key
abbrev pub without : List ℕ → List TableEntry → List TableEntry
without key entries = filter (λ (entry : TableEntry). not (bytes_eq entry.key key)) entries

-- the entry before the first that comes after it
abbrev pub put_in : TableEntry → List TableEntry → List TableEntry
put_in new [] = new ∷ []
put_in new (entry ∷ entries) = if is_before new.key entry.key then new ∷ entry ∷ entries else entry ∷ put_in new entries

-- the table in which a key has a value
abbrev pub with_entry : List ℕ → List ℕ → List TableEntry → List TableEntry
with_entry key value entries = put_in (record { key = key; value = value }) (without key entries)

-- how many bytes an entry takes, in a reply as in the state
abbrev pub entry_size : TableEntry → ℕ
entry_size entry = 4 + (length entry.key + length entry.value)

-- a page of these entries: the longest front whose reply has at most 16,384 bytes, and whether entries were left out
abbrev pub marked : List TableEntry → List TableEntry → Reply
marked all page = Entries (nat_lt (length page) (length all)) page

abbrev pub page_of : List TableEntry → Reply
page_of all = marked all (front_within entry_size (16384 - 4) all)

-- the entries whose keys are in the range, in order
abbrev pub scanned : List ℕ → List ℕ → List TableEntry → List TableEntry
scanned from to entries = filter (λ (entry : TableEntry). is_within from to entry.key) entries

-- ---- what a command makes of the logs and the table

pub record Effect : Type 0 where
  pub logs : List LogState
  pub table : List TableEntry
  pub reply : Reply

-- nothing changes
abbrev pub told : Reply → List LogState → List TableEntry → Effect
told reply logs table = record { logs = logs; table = table; reply = reply }

-- the named logs take the value, and their ends until then are the positions of it
abbrev pub appending : List ℕ → List LogId → List LogState → List TableEntry → Effect
appending value named logs table = record { logs = with_value value named logs; table = table; reply = Positions (ends_of named logs) }

-- trimming past the end changes nothing and tells the length
abbrev pub trimming : ℕ → LogState → List LogState → List TableEntry → Effect
trimming position log logs table =
    if nat_lt (log_length log) position then told (Beyond (log_length log)) logs table
    else told Done (with_log (trimmed_to position log) logs) table

-- a key that is there takes the new value
abbrev pub updating : Option (List ℕ) → List ℕ → List ℕ → List LogState → List TableEntry → Effect
updating None key value logs table = told Absent logs table
updating (Some old) key value logs table = told Done logs (with_entry key value table)

-- a key that isn't there comes in
abbrev pub inserting : Option (List ℕ) → List ℕ → List ℕ → List LogState → List TableEntry → Effect
inserting None key value logs table = told Done logs (with_entry key value table)
inserting (Some old) key value logs table = told Exists logs table

-- a key that is there goes
abbrev pub deleting : Option (List ℕ) → List ℕ → List LogState → List TableEntry → Effect
deleting None key logs table = told Absent logs table
deleting (Some old) key logs table = told Done logs (without key table)

-- a key that has the old value takes the new one
abbrev pub swapping : Option (List ℕ) → List ℕ → List ℕ → List ℕ → List LogState → List TableEntry → Effect
swapping None key old new logs table = told Absent logs table
swapping (Some value) key old new logs table = if bytes_eq value old then told Done logs (with_entry key new table) else told (Differs value) logs table

-- the rule of each command, where there is room
unfoldable pub effect_of : Command → List LogState → List TableEntry → Effect
effect_of (Append log value) logs table = appending value (log ∷ []) logs table
effect_of (Multi named value) logs table = appending value named logs table
effect_of (ReadLog log position) logs table = told (read_at position (log_at log logs)) logs table
effect_of (TrimLog log position) logs table = trimming position (log_at log logs) logs table
effect_of (Get key) logs table = told (value_or_absent (value_of key table)) logs table
effect_of (Scan from to) logs table = told (page_of (scanned from to table)) logs table
effect_of (Update key value) logs table = updating (value_of key table) key value logs table
effect_of (Insert key value) logs table = inserting (value_of key table) key value logs table
effect_of (Delete key) logs table = deleting (value_of key table) key logs table
effect_of (Swap key old new) logs table = swapping (value_of key table) key old new logs table

-- ---- room

-- how many bytes a log takes in the state: its number, its trim, how many values it keeps, and these with their lengths
abbrev pub log_size : LogState → ℕ
log_size log = 17 + sum_by (λ (value : List ℕ). 2 + length value) log.values

-- how many bytes the logs and the table take in the state, with their counts
abbrev pub services_size : List LogState → List TableEntry → ℕ
services_size logs table = 1 + sum_by log_size logs + (8 + sum_by entry_size table)

-- whether one of the logs is longer than 2 ^ 63
abbrev pub is_one_too_long : List LogState → Bool
is_one_too_long [] = false
is_one_too_long (log ∷ logs) = nat_lt (2 ^ 63) (log_length log) || is_one_too_long logs

abbrev pub has_no_room : List LogState → List TableEntry → Bool
has_no_room logs table = nat_lt 67108864 (services_size logs table) || is_one_too_long logs

-- the effect; where it would have no room, the services stay as they are and tell Limit
abbrev pub where_room : List LogState → List TableEntry → Effect → Effect
where_room logs table effect = if has_no_room effect.logs effect.table then told Limit logs table else effect

-- ---- sessions

abbrev pub session_at : ClientId → List Session → Option Session
session_at client [] = None
session_at client (session ∷ sessions) = if session.client.0 == client.0 then Some session else session_at client sessions

-- the session before the first of a greater client, in the place of its client's own
abbrev pub with_session : Session → List Session → List Session
with_session new [] = new ∷ []
with_session new (session ∷ sessions) =
    if nat_lt new.client.0 session.client.0 then new ∷ session ∷ sessions
    else if new.client.0 == session.client.0 then new ∷ sessions
    else session ∷ with_session new sessions

-- ---- entries

-- the replica once it took an entry, and the bytes of the reply that it gives, if any
pub record Applied : Type 0 where
  pub replica : Replica
  pub reply : Option (List ℕ)

abbrev pub empty_replica : PartitionTable → Replica
empty_replica p = record { sessions = []; logs = map empty_log p.logs; table = [] }

-- the entry is passed over
abbrev pub passed_over : Replica → Applied
passed_over r = record { replica = r; reply = None }

-- the kept reply is given again
abbrev pub given_again : Replica → Session → Applied
given_again r session = record { replica = r; reply = Some session.reply }

-- the reply with these bytes is kept with the client's number
abbrev pub kept : Replica → Entry → List LogState → List TableEntry → List ℕ → Applied
kept r e logs table reply = record {
  replica = record { sessions = with_session (record { client = e.client; seq = e.seq; reply = reply }) r.sessions; logs = logs; table = table };
  reply = Some reply;
}

-- the services take the command
abbrev pub taken_with : Replica → Entry → Effect → Applied
taken_with r e effect = kept r e effect.logs effect.table (reply_bytes effect.reply)

abbrev pub taken : Replica → Entry → Command → Applied
taken r e command = taken_with r e (where_room r.logs r.table (effect_of command r.logs r.table))

-- A client's first number, and each greater one, is taken; its greatest number so far gets the kept reply again, whatever the
-- command; a lesser one gets nothing.
abbrev pub numbered : Replica → Entry → Command → Option Session → Applied
numbered r e command None = taken r e command
numbered r e command (Some session) =
    if nat_lt session.seq e.seq then taken r e command
    else if session.seq == e.seq then given_again r session
    else passed_over r

-- an entry whose bytes are no command, or whose command doesn't concern the partition, is passed over
abbrev pub judged : PartitionTable → Replica → Entry → Result Command CodecFault → Applied
judged p r e (Err fault) = passed_over r
judged p r e (Ok command) = if is_concerned command p then numbered r e command (session_at e.client r.sessions) else passed_over r

-- what a replica of the partition makes of an entry
unfoldable pub apply : PartitionTable → Replica → Entry → Applied
apply p r e = judged p r e (command_of e.command)

-- ---- batches

-- the replica once it took some entries, and those that get a reply, each with its place in the batch and the reply's bytes
pub record AppliedAll : Type 0 where
  pub replica : Replica
  pub replies : List (ℕ × Entry × List ℕ)

abbrev pub noted : ℕ → Entry → List (ℕ × Entry × List ℕ) → Option (List ℕ) → List (ℕ × Entry × List ℕ)
noted index e replies None = replies
noted index e replies (Some reply) = replies ++ (index, e, reply) ∷ []

abbrev pub with_applied : ℕ → Entry → List (ℕ × Entry × List ℕ) → Applied → AppliedAll
with_applied index e replies applied = record { replica = applied.replica; replies = noted index e replies applied.reply }

-- one entry after another, the first of them at this place
abbrev pub applies_from : PartitionTable → ℕ → AppliedAll → List Entry → AppliedAll
applies_from p index done [] = done
applies_from p index done (e ∷ es) = applies_from p (suc index) (with_applied index e done.replies (apply p done.replica e)) es

-- the entries of a batch
abbrev pub applies : PartitionTable → Replica → List Entry → AppliedAll
applies p r es = applies_from p 0 (record { replica = r; replies = [] }) es

abbrev pub entries_or_none : Result (List Entry) CodecFault → List Entry
entries_or_none (Ok entries) = entries
entries_or_none (Err fault) = []

-- the entries that the bytes of a batch spell; bytes that are none have none
abbrev pub entries_of_batch : List ℕ → List Entry
entries_of_batch bytes = entries_or_none (batch_of bytes)
