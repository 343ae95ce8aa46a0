use Rattle.std.proofs.Common.{◌≡◌, ◌-◌}
use Rattle.mrp_types.specs.Reading.{each}
use Rattle.command_codec.specs.Reader.{passed}
use Rattle.command_codec.specs.Grammar.{entry_at}
use Rattle.command_codec.proofs.batch_test.pass_entries.Given as goal

-- passing over the rest ends where passing over all ends
abbrev pub invariant-loop-turn : goal.invariant-loop-turn
invariant-loop-turn l = passed (each entry_at (l.count - l._turn) l.fields) ≡ passed (each entry_at l.count l.fn.fields)
