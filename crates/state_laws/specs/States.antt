-- What holds of every replica that given entries leave of an empty one, so that its written state is read back.
use Rattle.std.specs.Prelude.{◌≡◌, ◌≤◌, ◌<◌, ℕ, ◌+◌, ◌-◌, ◌^◌, IsTrue, List, [], ◌∷◌, length}
use Rattle.std.specs.List.{AllByRecursion}
use Rattle.hex.specs.Hex.{IsBytes}
use Rattle.mrp_types.specs.declared.id.LogId.{LogId}
use Rattle.mrp_types.specs.declared.value.Entry.{Entry}
use Rattle.command_codec.specs.declared.reply.TableEntry.{TableEntry}
use Rattle.command_codec.specs.Grammar.{comes_after}
use Rattle.command_codec.specs.Replies.{IsTableEntry}
use Rattle.mrp_config.specs.declared.tables.PartitionTable.{PartitionTable}
use Rattle.mrp_config.specs.Valid.{AreAtMost, numbers_of_logs}
use Rattle.plain_model.specs.Replicas.{Session, LogState, Replica, log_length, services_size}
use Rattle.state_laws.specs.Spoken.{IsReplyText}

-- ---- entries

-- An entry as a batch spells it: a client of one byte, a number from 1 to 2 ^ 63 - 1, and bytes.
pub record IsGiven (e : Entry) : Type 0 where
  pub client : e.client.0 ≤ 255
  pub asked : 1 ≤ e.seq
  pub numbered : e.seq ≤ 2 ^ 63 - 1
  pub bytes : IsBytes e.command

abbrev pub AreGiven : List Entry → Type 0
AreGiven es = AllByRecursion IsGiven es

-- at most 64 logs, each below 64, as a partition of a deployment has them
pub record HasFewLogs (p : PartitionTable) : Type 0 where
  pub few : length p.logs ≤ 64
  pub low : AreAtMost 63 (numbers_of_logs p.logs)

-- ---- sessions

-- a session of a client of at least this number
pub record IsSession (least : ℕ) (session : Session) : Type 0 where
  pub rising : least ≤ session.client.0
  pub client : session.client.0 ≤ 255
  pub asked : 1 ≤ session.seq
  pub numbered : session.seq ≤ 2 ^ 63 - 1
  pub reply : IsReplyText session.reply

-- sessions whose clients increase
abbrev pub AreSessions : ℕ → List Session → Type 0
AreSessions least [] = Unit {0}
AreSessions least (session ∷ sessions) = IsSession least session × AreSessions (session.client.0 + 1) sessions

-- ---- logs

abbrev pub IsShort : List ℕ → Type 0
IsShort value = length value ≤ 2048

-- trim and kept values are 2 ^ 63 at most, and each value is short
pub record IsLog (log : LogState) : Type 0 where
  pub few : log_length log ≤ 2 ^ 63
  pub values : AllByRecursion IsShort log.values

-- these very logs
abbrev pub AreLogsOf : List LogId → List LogState → Type 0
AreLogsOf [] [] = Unit {0}
AreLogsOf (id ∷ ids) (log ∷ logs) = (log.id.0 ≡ id.0) × IsLog log × AreLogsOf ids logs
AreLogsOf ids logs = ⊥

-- ---- the table

-- entries whose keys increase, the first after this one
abbrev pub AreRisingAfter : List ℕ → List TableEntry → Type 0
AreRisingAfter before [] = Unit {0}
AreRisingAfter before (entry ∷ entries) = IsTableEntry entry × IsTrue (comes_after before entry.key) × AreRisingAfter entry.key entries

-- ---- the whole

-- sessions by client, exactly the partition's logs, the table by key, and logs and table of at most 67,108,864 bytes
pub record IsState (p : PartitionTable) (r : Replica) : Type 0 where
  pub sessions : AreSessions 0 r.sessions
  pub logs : AreLogsOf p.logs r.logs
  pub table : AreRisingAfter [] r.table
  pub small : services_size r.logs r.table ≤ 67108864

-- ---- bytes

-- each is a byte
abbrev pub AreBytes : List ℕ → Type 0
AreBytes bytes = AllByRecursion (λ (b : ℕ). b < 256) bytes

abbrev pub SessionBytes : Session → Type 0
SessionBytes session = (session.client.0 < 256) × AreBytes session.reply

abbrev pub LogBytes : LogState → Type 0
LogBytes log = (log.id.0 < 256) × AllByRecursion AreBytes log.values

abbrev pub EntryBytes : TableEntry → Type 0
EntryBytes entry = AreBytes entry.key × AreBytes entry.value

-- all that a replica keeps is of bytes
pub record HoldsBytes (r : Replica) : Type 0 where
  pub sessions : AllByRecursion SessionBytes r.sessions
  pub logs : AllByRecursion LogBytes r.logs
  pub table : AllByRecursion EntryBytes r.table

-- a valid state of the partition, of bytes
pub record IsSound (p : PartitionTable) (r : Replica) : Type 0 where
  pub state : IsState p r
  pub bytes : HoldsBytes r
