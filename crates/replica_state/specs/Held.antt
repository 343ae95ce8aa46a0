-- What a replica is seen as: its partition, and what it keeps.
use Rattle.std.specs.Prelude.{ℕ, ◌+◌, nat_lt, if◌then◌else◌, Bool, true, false, IsTrue, List, map}
use Rattle.command_codec.specs.declared.command.Command.{Command}
use Rattle.command_codec.specs.declared.command.Command.TheVariants.{Append, Multi, ReadLog, TrimLog, Get, Scan}
use Rattle.command_codec.specs.declared.reply.TableEntry.{TableEntry}
use Rattle.command_codec.specs.declared.reply.Reply.{Reply}
use Rattle.command_codec.specs.declared.reply.Reply.TheVariants.{Limit}
use Rattle.mrp_config.specs.declared.tables.PartitionTable.{PartitionTable}
use Rattle.plain_model.specs.Replicas.{Session, LogState, Replica}
use Rattle.command_codec.specs.Valid.{rises_from}
use Rattle.state_laws.specs.States.{HasFewLogs, IsState}
use Rattle.services.specs.Parts.{Part, Logs, Table, effect_on, after, growth_of}
use Rattle.replica_state.specs.declared.sessions.Kept.{Kept}

-- a partition, and what a replica of it keeps
pub record Held : Type 0 where
  pub partition : PartitionTable
  pub replica : Replica

-- what is kept of a client, as a session
abbrev pub session_of : ℕ × Kept → Session
session_of e = record { client = record { 0 = e.0 }; seq = e.1.seq; reply = e.1.reply }

-- the sessions of a map by clients
abbrev pub sessions_in : List (ℕ × Kept) → List Session
sessions_in entries = map session_of entries

-- ---- a service that takes a command where there is room

-- whether a command finds no room beside so many bytes
abbrev pub no_room : ℕ → Command → Part → Bool
no_room used command part = nat_lt 67108864 (used + growth_of command part)

abbrev pub part_after : ℕ → Command → Part → Part
part_after used command part = if no_room used command part then part else after command part

abbrev pub reply_after : ℕ → Command → Part → Reply
reply_after used command part = if no_room used command part then Limit else (effect_on command part).reply

-- ---- what holds of every state

-- a partition of at most 64 logs below 64 that increase, and a valid state of it
pub record IsHeld (p : PartitionTable) (r : Replica) : Type 0 where
  pub logs : HasFewLogs p
  pub rising : IsTrue (rises_from 0 p.logs)
  pub state : IsState p r

-- ---- what becomes of a command

-- whether a command is one on logs
abbrev pub is_on_logs : Command → Bool
is_on_logs (Append log value) = true
is_on_logs (Multi logs value) = true
is_on_logs (ReadLog log position) = true
is_on_logs (TrimLog log position) = true
is_on_logs other = false

-- the part that a command is for
abbrev pub part_of : Command → List LogState → List TableEntry → Part
part_of command logs table = if is_on_logs command then Logs logs else Table table

abbrev pub replica_with : List (ℕ × Kept) → List LogState → List TableEntry → Replica
replica_with entries logs table = record { sessions = sessions_in entries; logs = logs; table = table }

-- whether a command only looks
abbrev pub is_look : Command → Bool
is_look (ReadLog log position) = true
is_look (Get key) = true
is_look (Scan from to) = true
is_look other = false
