use Rattle.std.proofs.Common.{◌≡◌, ◌-◌, []}
use Rattle.mrp_types.specs.Reading.{chain}
use Rattle.command_codec.specs.Grammar.{table_entry_at, key_of}
use Rattle.command_codec.proofs.Loops.{before}
use Rattle.range_store.proofs.ReadLaws.{AreUpTo}
use Rattle.range_store.proofs.store.RangeStore.read_entries.Given as goal

-- what was read so far and what is still read are all of it, and the last key so far is the greatest
abbrev pub invariant-loop-turn : goal.invariant-loop-turn
invariant-loop-turn l = record {
  all : before l.store (chain table_entry_at key_of (l.count - l._turn) l.before l.fields) ≡ chain table_entry_at key_of l.count [] l.fn.fields;
  last : AreUpTo l.before l.store;
}
