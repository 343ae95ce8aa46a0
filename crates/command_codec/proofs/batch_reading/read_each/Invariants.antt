use Rattle.std.proofs.Common.{◌≡◌, ◌-◌}
use Rattle.mrp_types.specs.Reading.{each}
use Rattle.command_codec.specs.Grammar.{entry_at}
use Rattle.command_codec.proofs.Loops.{before}
use Rattle.command_codec.proofs.batch_reading.read_each.Given as goal

-- what was read so far and what is still read are all of it
abbrev pub invariant-loop-turn : goal.invariant-loop-turn
invariant-loop-turn l =
    before l.entries.items (each entry_at (l.count - l._turn) l.fields) ≡ each entry_at l.count l.fn.fields
