use Rattle.std.proofs.Common.{◌≡◌, ◌-◌, []}
use Rattle.mrp_types.specs.Reading.{chain}
use Rattle.command_codec.specs.Grammar.{table_entry_at, key_of}
use Rattle.command_codec.proofs.Loops.{before}
use Rattle.command_codec.proofs.reply_reading.read_each_entry.Given as goal

-- what was read so far and what is still read are all of it
abbrev pub invariant-loop-turn : goal.invariant-loop-turn
invariant-loop-turn l =
    before l.entries.items (chain table_entry_at key_of (l.count - l._turn) l.before l.fields) ≡ chain table_entry_at key_of l.count [] l.fn.fields
