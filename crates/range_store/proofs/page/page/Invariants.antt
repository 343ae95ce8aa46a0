use Rattle.std.proofs.Common.{◌≡◌, ◌+◌, ◌++◌, ◌≤◌, length}
use Rattle.plain_model.specs.Replicas.{entry_size}
use Rattle.std.specs.List.{AllByRecursion}
use Rattle.command_codec.specs.Replies.{IsTableEntry}
use Rattle.plain_model.specs.Pages.{front_within}
use Rattle.range_store.specs.Table.{seen}
use Rattle.range_store.proofs.page.page.Given as goal

-- what has room so far, and what still has room of the entries that are left
abbrev pub invariant-loop-key : goal.invariant-loop-key
invariant-loop-key l = record {
  front : l.entries ++ front_within entry_size l.room (seen l.key-iterator) ≡ front_within entry_size 16380 (seen l.fn.range);
  count : length l.entries + length (seen l.key-iterator) ≡ length (seen l.fn.range);
  each : AllByRecursion IsTableEntry (seen l.key-iterator);
  room : l.room ≤ 16380;
}
