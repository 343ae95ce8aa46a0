-- Reading of commands, batches and replies.
use Rattle.std.specs.Prelude.{ℕ, ◌+◌, ◌-◌, ◌^◌, ◌==◌, ◌||◌, if◌then◌else◌, Bool, List, [], length, Result, Err}
use Rattle.std.specs.Int.{w16, w64}
use Rattle.std.specs.Ordering.{nat_cmp, is_lt}
use Rattle.std.specs.Cmp.Lexicographic.{slice_cmp}
use Rattle.mrp_types.specs.declared.id.LogId.{LogId}
use Rattle.mrp_types.specs.declared.value.Entry.{Entry}
use Rattle.command_codec.specs.declared.command.Command.{Command}
use Rattle.command_codec.specs.declared.command.Command.TheVariants.{Append, Multi, ReadLog, TrimLog, Get, Scan, Update, Insert, Delete, Swap}
use Rattle.command_codec.specs.declared.reply.LogPosition.{LogPosition}
use Rattle.command_codec.specs.declared.reply.TableEntry.{TableEntry}
use Rattle.command_codec.specs.declared.reply.Reply.{Reply}
use Rattle.command_codec.specs.declared.reply.Reply.TheVariants as replies
use Rattle.command_codec.specs.declared.fault.CodecFault.{CodecFault}
use Rattle.command_codec.specs.declared.fault.CodecFault.TheVariants.{BadKind}
use Rattle.mrp_types.specs.Reading.{◌>>=◌, follow, both, nothing, shown, counted, many}
use Rattle.command_codec.specs.Reader.{Reader, byte_at, number_at, within, string_at, string_that, whole}

-- ---- parts

-- a log of at least this number and below 64
abbrev pub log_from : ℕ → Reader LogId
log_from least = shown (λ n. record { 0 = n }) (within least 63 byte_at)

abbrev pub after_log : LogId → ℕ
after_log log = log.0 + 1

-- 1 to 64 logs that increase
abbrev pub logs_at : Reader (List LogId)
logs_at = counted (within 1 64 byte_at) log_from after_log 0

abbrev pub key_at : Reader (List ℕ)
key_at = string_at 1 256

abbrev pub stored_at : Reader (List ℕ)
stored_at = string_at 0 2048

-- whether this end of a scan is none, or comes after its begin
abbrev pub ends : List ℕ → List ℕ → Bool
ends from to = (length to == 0) || is_lt (slice_cmp nat_cmp from to)

-- ---- commands

unfoldable pub append_at : Reader Command
append_at = shown (λ x. Append x.0 x.1) (both (log_from 0) stored_at)

unfoldable pub multi_at : Reader Command
multi_at = shown (λ x. Multi x.0 x.1) (both logs_at stored_at)

unfoldable pub read_log_at : Reader Command
read_log_at = shown (λ x. ReadLog x.0 x.1) (both (log_from 0) (number_at w64))

unfoldable pub trim_log_at : Reader Command
trim_log_at = shown (λ x. TrimLog x.0 x.1) (both (log_from 0) (number_at w64))

unfoldable pub get_at : Reader Command
get_at = shown Get key_at

unfoldable pub scan_at : Reader Command
scan_at = shown (λ x. Scan x.0 x.1) (follow (string_at 0 256) (λ from. string_that 0 256 (ends from)))

unfoldable pub update_at : Reader Command
update_at = shown (λ x. Update x.0 x.1) (both key_at stored_at)

unfoldable pub insert_at : Reader Command
insert_at = shown (λ x. Insert x.0 x.1) (both key_at stored_at)

unfoldable pub delete_at : Reader Command
delete_at = shown Delete key_at

unfoldable pub swap_at : Reader Command
swap_at = shown (λ x. Swap x.0 x.1.0 x.1.1) (both key_at (both stored_at stored_at))

-- what follows a kind that stands at the given position
unfoldable pub command_of_kind : ℕ → ℕ → Reader Command
command_of_kind at kind spot =
    if kind == 1 then append_at spot
    else if kind == 2 then multi_at spot
    else if kind == 3 then read_log_at spot
    else if kind == 4 then trim_log_at spot
    else if kind == 5 then get_at spot
    else if kind == 6 then scan_at spot
    else if kind == 7 then update_at spot
    else if kind == 8 then insert_at spot
    else if kind == 9 then delete_at spot
    else if kind == 10 then swap_at spot
    else Err (BadKind at)

unfoldable pub command_at : Reader Command
command_at spot = do
  kind ← byte_at spot
  command_of_kind spot.at kind.0 kind.1

-- the command that the bytes spell, all of the bytes
abbrev pub command_of : List ℕ → Result Command CodecFault
command_of bytes = whole command_at bytes

-- ---- batches

abbrev pub entry_of : ℕ × (ℕ × List ℕ) → Entry
entry_of x = record { client = record { 0 = x.0 }; seq = x.1.0; command = x.1.1 }

unfoldable pub entry_at : Reader Entry
entry_at = shown entry_of (both byte_at (both (within 1 (2 ^ 63 - 1) (number_at w64)) (string_at 0 4608)))

-- 1 to 65,535 entries
abbrev pub entries_at : Reader (List Entry)
entries_at = many (within 1 65535 (number_at w16)) entry_at

unfoldable pub batch_at : Reader (List Entry)
batch_at spot = do
  kind ← byte_at spot
  if kind.0 == 1 then entries_at kind.1 else Err (BadKind spot.at)

-- the entries of the batch that the bytes spell, all of the bytes
abbrev pub batch_of : List ℕ → Result (List Entry) CodecFault
batch_of bytes = whole batch_at bytes

-- ---- replies

unfoldable pub position_at : Reader LogPosition
position_at = shown (λ x. record { log = x.0; position = x.1 }) (both (log_from 0) (number_at w64))

unfoldable pub positions_at : Reader Reply
positions_at = shown replies.Positions (many byte_at position_at)

-- whether a key comes after this one; each key comes after no bytes
abbrev pub comes_after : List ℕ → List ℕ → Bool
comes_after before key = is_lt (slice_cmp nat_cmp before key)

unfoldable pub table_entry_at : List ℕ → Reader TableEntry
table_entry_at before = shown (λ x. record { key = x.0; value = x.1 }) (both (string_that 1 256 (comes_after before)) stored_at)

abbrev pub key_of : TableEntry → List ℕ
key_of entry = entry.key

unfoldable pub entries_reply_at : Reader Reply
entries_reply_at = shown (λ x. replies.Entries (x.0 == 1) x.1) (both (within 0 1 byte_at) (counted (number_at w16) table_entry_at key_of []))

-- what follows a kind that stands at the given position
unfoldable pub reply_of_kind : ℕ → ℕ → Reader Reply
reply_of_kind at kind spot =
    if kind == 1 then positions_at spot
    else if kind == 2 then shown replies.Value stored_at spot
    else if kind == 3 then shown replies.Trimmed (number_at w64) spot
    else if kind == 4 then nothing replies.Absent spot
    else if kind == 5 then shown replies.Beyond (number_at w64) spot
    else if kind == 6 then nothing replies.Exists spot
    else if kind == 7 then nothing replies.Done spot
    else if kind == 8 then entries_reply_at spot
    else if kind == 9 then nothing replies.Limit spot
    else if kind == 10 then shown replies.Differs stored_at spot
    else Err (BadKind at)

unfoldable pub reply_at : Reader Reply
reply_at spot = do
  kind ← byte_at spot
  reply_of_kind spot.at kind.0 kind.1

-- the reply that the bytes spell, all of the bytes
abbrev pub reply_of : List ℕ → Result Reply CodecFault
reply_of bytes = whole reply_at bytes
