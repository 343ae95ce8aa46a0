use Rattle.std.proofs.Common.{◌≡◌, ◌-◌}
use Rattle.mrp_types.specs.Reading.{chain}
use Rattle.command_codec.specs.Grammar.{log_from, after_log}
use Rattle.command_codec.proofs.Loops.{before}
use Rattle.command_codec.proofs.command_reading.read_rising_logs.Given as goal

-- the logs so far and those still read are all of them
abbrev pub invariant-loop-turn : goal.invariant-loop-turn
invariant-loop-turn l =
    before l.logs.items (chain log_from after_log (l.count - l._turn) l.least l.fields) ≡ chain log_from after_log l.count 0 l.fn.fields
