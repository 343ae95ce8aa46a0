-- The one spelling of each command, entry, batch and value, and which of them have one.
use Rattle.std.specs.Prelude.{ℕ, ◌≤◌, List, [], ◌∷◌, ◌++◌, length, map}
use Rattle.std.specs.List.{flat_map, AllByRecursion}
use Rattle.mrp_types.specs.declared.id.LogId.{LogId}
use Rattle.mrp_types.specs.declared.value.Entry.{Entry}
use Rattle.mrp_types.specs.declared.value.Value.{Value}
use Rattle.mrp_types.specs.declared.value.Value.TheVariants.{Skip, Batch}
use Rattle.mrp_types.specs.Entries.{IsEntry}
use Rattle.command_codec.specs.declared.command.Command.{Command}
use Rattle.command_codec.specs.declared.command.Command.TheVariants.{Append, Multi, ReadLog, TrimLog, Get, Scan, Update, Insert, Delete, Swap}
use Rattle.command_codec.specs.Fields.{u16_bytes, u64_bytes, string16}

-- a kind, and the fields in order
abbrev pub command_bytes : Command → List ℕ
command_bytes (Append log value) = 1 ∷ log.0 ∷ string16 value
command_bytes (Multi logs value) = 2 ∷ length logs ∷ map (λ (log : LogId). log.0) logs ++ string16 value
command_bytes (ReadLog log position) = 3 ∷ log.0 ∷ u64_bytes position
command_bytes (TrimLog log position) = 4 ∷ log.0 ∷ u64_bytes position
command_bytes (Get key) = 5 ∷ string16 key
command_bytes (Scan from to) = 6 ∷ string16 from ++ string16 to
command_bytes (Update key value) = 7 ∷ string16 key ++ string16 value
command_bytes (Insert key value) = 8 ∷ string16 key ++ string16 value
command_bytes (Delete key) = 9 ∷ string16 key
command_bytes (Swap key old new) = 10 ∷ string16 key ++ (string16 old ++ string16 new)

-- the client, its number, and the command
abbrev pub entry_bytes : Entry → List ℕ
entry_bytes entry = entry.client.0 ∷ u64_bytes entry.seq ++ string16 entry.command

-- the kind 1, how many entries, and these
abbrev pub batch_bytes : List Entry → List ℕ
batch_bytes entries = 1 ∷ u16_bytes (length entries) ++ flat_map entry_bytes entries

-- a byte 0 for Skip
abbrev pub value_bytes : Value → List ℕ
value_bytes Skip = 0 ∷ []
value_bytes (Batch batch) = batch

-- 1 to 65,535 entries
pub record AreEntries (entries : List Entry) : Type 0 where
  pub some : 1 ≤ length entries
  pub few : length entries ≤ 65535
  pub each : AllByRecursion IsEntry entries

-- entries whose spelling is short enough for an instance
pub record IsBatch (entries : List Entry) : Type 0 where
  pub some : 1 ≤ length entries
  pub few : length entries ≤ 65535
  pub each : AllByRecursion IsEntry entries
  pub short : length (batch_bytes entries) ≤ 8192
