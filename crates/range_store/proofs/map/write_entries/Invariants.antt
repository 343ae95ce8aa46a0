use Rattle.std.proofs.Common.{◌≡◌, ◌++◌}
use Rattle.std.specs.List.{flat_map, AllByRecursion}
use Rattle.command_codec.specs.Replies.{table_entry_bytes, IsTableEntry}
use Rattle.range_store.specs.Table.{seen}
use Rattle.range_store.proofs.map.write_entries.Given as goal

-- what was written, and what is left to write
abbrev pub invariant-loop-key : goal.invariant-loop-key
invariant-loop-key l = record {
  all : l.to ++ flat_map table_entry_bytes (seen l.key-iterator) ≡ l.fn.to ++ flat_map table_entry_bytes (seen l.entries.entries);
  each : AllByRecursion IsTableEntry (seen l.key-iterator);
}
