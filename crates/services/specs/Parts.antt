-- What a service holds is a part of a replica's state: its logs, or its table. What a command makes of a part, and how many bytes
-- a part has, are the fold's, seen from the one part.
use Rattle.std.specs.Prelude.{ℕ, ◌-◌, Bool, true, false, if◌then◌else◌, List, [], map, length}
use Rattle.mrp_types.specs.declared.id.LogId.{LogId}
use Rattle.command_codec.specs.declared.command.Command.{Command}
use Rattle.command_codec.specs.declared.command.Command.TheVariants.{Append, Multi, ReadLog, TrimLog, Get, Scan, Update, Insert, Delete, Swap}
use Rattle.command_codec.specs.declared.reply.TableEntry.{TableEntry}
use Rattle.mrp_config.specs.Config.{has_log}
use Rattle.mrp_config.specs.Routing.{has_some}
use Rattle.plain_model.specs.Replicas.{LogState, Effect, effect_of, is_one_too_long}
use Rattle.plain_model.specs.StateBytes.{logs_bytes, table_bytes}

-- the logs of a partition in order of their numbers, or its table in order of keys
pub data Part : Type 0 where
  Logs : (logs : List LogState) → Part
  Table : (table : List TableEntry) → Part

abbrev pub logs_in : Part → List LogState
logs_in (Logs logs) = logs
logs_in (Table table) = []

abbrev pub table_in : Part → List TableEntry
table_in (Logs logs) = []
table_in (Table table) = table

-- the numbers of some logs
abbrev pub ids_of : List LogState → List LogId
ids_of logs = map (λ (log : LogState). log.id) logs

-- Whether a command is one of this part: one on logs where a log that it names is here, one on keys at the table.
abbrev pub is_for : Command → Part → Bool
is_for (Append log value) (Logs logs) = has_log (ids_of logs) log.0
is_for (Multi named value) (Logs logs) = has_some (ids_of logs) named
is_for (ReadLog log position) (Logs logs) = has_log (ids_of logs) log.0
is_for (TrimLog log position) (Logs logs) = has_log (ids_of logs) log.0
is_for (Get key) (Table table) = true
is_for (Scan from to) (Table table) = true
is_for (Update key value) (Table table) = true
is_for (Insert key value) (Table table) = true
is_for (Delete key) (Table table) = true
is_for (Swap key old new) (Table table) = true
is_for command part = false

-- what the fold's step has a command do where there is nothing but this part
abbrev pub effect_on : Command → Part → Effect
effect_on command part = effect_of command (logs_in part) (table_in part)

-- the part that an effect leaves
abbrev pub part_left : Part → Effect → Part
part_left (Logs logs) effect = Logs effect.logs
part_left (Table table) effect = Table effect.table

abbrev pub after : Command → Part → Part
after command part = part_left part (effect_on command part)

-- the written form of a part, as a section of the state
abbrev pub part_bytes : Part → List ℕ
part_bytes (Logs logs) = logs_bytes logs
part_bytes (Table table) = table_bytes table

abbrev pub part_size : Part → ℕ
part_size part = length (part_bytes part)

-- whether a log of the part is longer than 2 ^ 63
abbrev pub is_too_long : Part → Bool
is_too_long part = is_one_too_long (logs_in part)

-- By how many bytes a command would raise the written part, 0 where it would not; past every limit where a log would be longer
-- than 2 ^ 63.
abbrev pub growth_of : Command → Part → ℕ
growth_of command part = if is_too_long (after command part) then 67108865 else part_size (after command part) - part_size part
