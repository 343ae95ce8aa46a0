use Rattle.std.proofs.Common.{◌≡◌, ◌-◌}
use Rattle.mrp_types.specs.Reading.{chain}
use Rattle.command_codec.proofs.Loops.{before}
use Rattle.frames.specs.Ranges.{nothing_before, after_decided}
use Rattle.frames.specs.Grammar.{decided_at}
use Rattle.frames.proofs.lists.read_each_range.Given as goal

-- the ranges so far and those still read are all of them
abbrev pub invariant-loop-turn : goal.invariant-loop-turn
invariant-loop-turn l =
    before l.ranges (chain decided_at after_decided (l.count - l._turn) l.before l.fields) ≡ chain decided_at after_decided l.count nothing_before l.fn.fields
