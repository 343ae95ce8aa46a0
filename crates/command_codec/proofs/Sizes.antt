-- The lengths of what is written.
use Rattle.std.proofs.Common.{arith, ◌≡◌, ◌≤◌, ℕ, ◌+◌, List, [], ◌∷◌, ◌++◌, length, map, ◌∙◌, length-append}
use Rattle.std.proofs.lemmas.Grind.{common_steps}
use Rattle.mrp_types.specs.declared.value.Entry.{Entry}
use Rattle.mrp_types.specs.declared.id.LogId.{LogId}
use Rattle.mrp_types.specs.Entries.{IsEntry}
use Rattle.command_codec.specs.declared.command.Command.{Command}
use Rattle.command_codec.specs.declared.command.Command.TheVariants.{Append, Multi, ReadLog, TrimLog, Get, Scan, Update, Insert, Delete, Swap}
use Rattle.command_codec.specs.Fields.{u16_bytes, u64_bytes, string16}
use Rattle.command_codec.specs.Spelling.{command_bytes, entry_bytes, batch_bytes, IsBatch}
use Rattle.command_codec.specs.Valid.{IsCommand}

pub length-u16_bytes : (n : ℕ) → length (u16_bytes n) ≡ 2
unfolding u16_bytes
length-u16_bytes n = grind (arith, common_steps)

pub length-u64_bytes : (n : ℕ) → length (u64_bytes n) ≡ 8
unfolding u64_bytes
length-u64_bytes n = grind (arith, common_steps)

pub length-string16 : (bytes : List ℕ) → length (string16 bytes) ≡ length bytes + 2
length-string16 bytes = length-append (u16_bytes (length bytes)) bytes ∙ grind (arith, length-u16_bytes (length bytes))

pub length-append_command : (log : LogId) (value : List ℕ) → length (command_bytes (Append log value)) ≡ length value + 4
length-append_command log value = grind (arith, common_steps, length-string16 value)

length-two : (first second : List ℕ) → length (string16 first ++ string16 second) ≡ length first + length second + 4
length-two first second = grind (arith, common_steps, length-append (string16 first) (string16 second), length-string16 first, length-string16 second)

-- what has a spelling fits an entry
pub short_command : (command : Command) → IsCommand command → length (command_bytes command) ≤ 4608
short_command (Append log value) is = let fits : length value ≤ 2048 = is.1 in grind (arith, common_steps, length-string16 value)
short_command (Multi logs value) is =
    let fits : length value ≤ 2048 = is.1 in
    let few : length logs ≤ 64 = is.0.1 in
    omega (arith, multi_length logs value, fits, few)
  where
    multi_length : (logs : List LogId) (value : List ℕ) → length (command_bytes (Multi logs value)) ≡ length logs + length value + 4
    multi_length logs value = grind (arith, common_steps, length-append (map (λ (log : LogId). log.0) logs) (string16 value), length-string16 value)
short_command (ReadLog log position) is = grind (arith, common_steps, length-u64_bytes position)
short_command (TrimLog log position) is = grind (arith, common_steps, length-u64_bytes position)
short_command (Get key) is = let fits : length key ≤ 256 = is.1 in grind (arith, common_steps, length-string16 key)
short_command (Scan from to) is = let first : length from ≤ 256 = is.0 in let second : length to ≤ 256 = is.1 in grind (arith, common_steps, length-two from to)
short_command (Update key value) is = let first : length key ≤ 256 = is.0.1 in let second : length value ≤ 2048 = is.1 in grind (arith, common_steps, length-two key value)
short_command (Insert key value) is = let first : length key ≤ 256 = is.0.1 in let second : length value ≤ 2048 = is.1 in grind (arith, common_steps, length-two key value)
short_command (Delete key) is = let fits : length key ≤ 256 = is.1 in grind (arith, common_steps, length-string16 key)
short_command (Swap key old new) is =
    let first : length key ≤ 256 = is.0.1 in
    let second : length old ≤ 2048 = is.1 in
    let third : length new ≤ 2048 = is.2 in
    grind (arith, common_steps, length-append (string16 key) (string16 old ++ string16 new), length-string16 key, length-two old new)

pub length-entry_bytes : (entry : Entry) → length (entry_bytes entry) ≡ length entry.command + 11
length-entry_bytes entry = grind (arith, common_steps, length-u64_bytes entry.seq, length-string16 entry.command)

-- a batch of one entry
pub length-batch_of_one : (entry : Entry) → length (batch_bytes (entry ∷ [])) ≡ length entry.command + 14
length-batch_of_one entry = grind (arith, common_steps, length-u16_bytes 1, length-entry_bytes entry)

pub IsBatch-one : (entry : Entry) → IsEntry entry → IsBatch (entry ∷ [])
IsBatch-one entry is = record {
  some = grind (arith, common_steps);
  few = grind (arith, common_steps);
  each = (is, tt);
  short = let fits : length entry.command ≤ 4608 = is.short in grind (arith, length-batch_of_one entry);
}
