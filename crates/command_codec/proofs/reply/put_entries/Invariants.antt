use Rattle.std.proofs.Common.{◌≡◌, ◌++◌, length, drop}
use Rattle.std.specs.List.{flat_map, AllByRecursion}
use Rattle.command_codec.specs.Fields.{u16_bytes}
use Rattle.command_codec.specs.Replies.{table_entry_bytes, IsTableEntry}
use Rattle.command_codec.proofs.reply.put_entries.Given as goal

-- what was written, and what is left to write
abbrev pub invariant-loop-entry : goal.invariant-loop-entry
invariant-loop-entry l = record {
  all : l.out ++ flat_map table_entry_bytes (drop l.entry-index l.entries) ≡ l.fn.out ++ u16_bytes (length l.entries) ++ flat_map table_entry_bytes l.entries;
  each : AllByRecursion IsTableEntry (drop l.entry-index l.entries);
}
