-- The written form of a replica's state, and how it is read: the sessions by client, the logs by their numbers, the table by key.
use Rattle.std.specs.Prelude.{ℕ, ◌+◌, ◌-◌, ◌^◌, nat_lt, if◌then◌else◌, Bool, true, false, List, [], ◌∷◌, ◌++◌, length, Option, Some, None, Result, Ok, Err}
use Rattle.std.specs.Int.{w16, w32, w64}
use Rattle.std.specs.List.{flat_map}
use Rattle.mrp_types.specs.declared.id.LogId.{LogId}
use Rattle.command_codec.specs.declared.reply.Reply.{Reply}
use Rattle.command_codec.specs.declared.reply.TableEntry.{TableEntry}
use Rattle.command_codec.specs.declared.fault.CodecFault.{CodecFault}
use Rattle.command_codec.specs.declared.fault.CodecFault.TheVariants.{Short, BadKind, BadField, TooLong, Left, Memory}
use Rattle.command_codec.specs.Fields.{u16_bytes, u32_bytes, u64_bytes, string16}
use Rattle.mrp_types.specs.Reading.{◌>>=◌, follow, both, shown, counted, many}
use Rattle.command_codec.specs.Reader.{Spot, Reader, start, byte_at, bytes_at, number_at, within, string_at, ended}
use Rattle.command_codec.specs.Replies.{table_entry_bytes}
use Rattle.command_codec.specs.Grammar.{table_entry_at, key_of, reply_of}
use Rattle.mrp_config.specs.declared.tables.PartitionTable.{PartitionTable}
use Rattle.plain_model.specs.Replicas.{Session, LogState, Replica}

-- ---- writing

-- the client, its number, and the reply's bytes behind their length
abbrev pub session_bytes : Session → List ℕ
session_bytes session = session.client.0 ∷ u64_bytes session.seq ++ u32_bytes (length session.reply) ++ session.reply

-- the log, its trim, and the kept values behind their number
abbrev pub log_bytes : LogState → List ℕ
log_bytes log = log.id.0 ∷ u64_bytes log.trim ++ u64_bytes (length log.values) ++ flat_map string16 log.values

abbrev pub sessions_bytes : List Session → List ℕ
sessions_bytes sessions = u16_bytes (length sessions) ++ flat_map session_bytes sessions

abbrev pub logs_bytes : List LogState → List ℕ
logs_bytes logs = length logs ∷ flat_map log_bytes logs

abbrev pub table_bytes : List TableEntry → List ℕ
table_bytes table = u64_bytes (length table) ++ flat_map table_entry_bytes table

-- the written form of a state
unfoldable pub state_bytes : Replica → List ℕ
state_bytes r = sessions_bytes r.sessions ++ logs_bytes r.logs ++ table_bytes r.table

-- ---- reading: sessions

abbrev pub was_reply : Result Reply CodecFault → Bool
was_reply (Ok reply) = true
was_reply (Err fault) = false

-- the bytes of a reply, 1 to 16,384 of them, behind their length; at fault where they begin if they are no reply
unfoldable pub kept_reply_at : Reader (List ℕ)
kept_reply_at spot = do
  number ← within 1 16384 (number_at w32) spot
  bytes ← bytes_at number.0 number.1
  if was_reply (reply_of bytes.0) then Ok bytes else Err (BadField number.1.at)

abbrev pub session_with : ℕ × (ℕ × List ℕ) → Session
session_with x = record { client = record { 0 = x.0 }; seq = x.1.0; reply = x.1.1 }

-- the session of a client of at least this number
unfoldable pub session_at_least : ℕ → Reader Session
session_at_least least = shown session_with (both (within least 255 byte_at) (both (within 1 (2 ^ 63 - 1) (number_at w64)) kept_reply_at))

abbrev pub after_client : Session → ℕ
after_client session = session.client.0 + 1

abbrev pub sessions_at : Reader (List Session)
sessions_at = counted (number_at w16) session_at_least after_client 0

-- ---- reading: logs

-- the kept values of a log of this trim: so many that trim and values are 2 ^ 63 at most
abbrev pub values_after : ℕ → Reader (List (List ℕ))
values_after trim = many (within 0 (2 ^ 63 - trim) (number_at w64)) (string_at 0 2048)

abbrev pub log_with : ℕ × (ℕ × List (List ℕ)) → LogState
log_with x = record { id = record { 0 = x.0 }; trim = x.1.0; values = x.1.1 }

-- this very log
unfoldable pub this_log_at : LogId → Reader LogState
this_log_at id = shown log_with (both (within id.0 id.0 byte_at) (follow (within 0 (2 ^ 63) (number_at w64)) values_after))

-- these very logs, one after another
abbrev pub these_logs_at : List LogId → Reader (List LogState)
these_logs_at [] spot = Ok ([], spot)
these_logs_at (id ∷ ids) spot = do
  log ← this_log_at id spot
  logs ← these_logs_at ids log.1
  Ok (log.0 ∷ logs.0, logs.1)

abbrev pub without_count : ℕ × List LogState → List LogState
without_count x = x.1

-- their number, and these very logs
abbrev pub logs_at : List LogId → Reader (List LogState)
logs_at ids = shown without_count (both (within (length ids) (length ids) byte_at) (these_logs_at ids))

-- ---- reading: the whole

-- entries whose keys increase
abbrev pub table_at : Reader (List TableEntry)
table_at = counted (number_at w64) table_entry_at key_of []

-- what was read, where the logs begin, and where the table begins
pub record Sections : Type 0 where
  pub replica : Replica
  pub logs_begin : ℕ
  pub table_begins : ℕ

-- the fields from the left
abbrev pub sections_at : PartitionTable → Reader Sections
sections_at p spot = do
  sessions ← sessions_at spot
  logs ← logs_at p.logs sessions.1
  table ← table_at logs.1
  Ok (record { replica = record { sessions = sessions.0; logs = logs.0; table = table.0 }; logs_begin = sessions.1.at; table_begins = logs.1.at }, table.1)

-- the state, where logs and table have at most 67,108,864 bytes up to this place; else the table is at fault where it begins
abbrev pub where_small : ℕ → Sections → Result Replica CodecFault
where_small end read = if nat_lt 67108864 (end - read.logs_begin) then Err (BadField read.table_begins) else Ok read.replica

-- a state of the partition; what follows it stays unread
unfoldable pub state_at : PartitionTable → Reader Replica
state_at p spot = do
  read ← sections_at p spot
  replica ← where_small read.1.at read.0
  Ok (replica, read.1)

-- the state that the bytes are, all of the bytes; the size is judged last
unfoldable pub whole_state : PartitionTable → List ℕ → Result Replica CodecFault
whole_state p bytes = do
  read ← sections_at p (start bytes)
  all ← ended read.0 read.1
  where_small read.1.at all

-- the position that a fault names; want of memory, which reading here never gives, has none
abbrev pub fault_position : CodecFault → ℕ
fault_position (Short at) = at
fault_position (BadKind at) = at
fault_position (BadField at) = at
fault_position (TooLong at) = at
fault_position (Left at) = at
fault_position Memory = 0

abbrev pub with_rest : Result (Replica × Spot) CodecFault → Result (Replica × List ℕ) ℕ
with_rest (Ok x) = Ok (x.0, x.1.rest)
with_rest (Err fault) = Err (fault_position fault)

-- a state at the front of the bytes and what follows it, or the position of the first fault
abbrev pub read_state : PartitionTable → List ℕ → Result (Replica × List ℕ) ℕ
read_state p bytes = with_rest (state_at p (start bytes))

abbrev pub if_read : Result Replica CodecFault → Option Replica
if_read (Ok replica) = Some replica
if_read (Err fault) = None

-- the state that the bytes are, if they are one
abbrev pub state_of : PartitionTable → List ℕ → Option Replica
state_of p bytes = if_read (whole_state p bytes)
