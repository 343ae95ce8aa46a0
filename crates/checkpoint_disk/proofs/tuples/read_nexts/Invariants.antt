use Rattle.std.proofs.Common.{◌≡◌, ◌-◌, length}
use Rattle.mrp_types.specs.Reading.{chain}
use Rattle.command_codec.proofs.Loops.{before}
use Rattle.frames.specs.Grammar.{next_at, after_ring}
use Rattle.frames.proofs.Tuples.{AreNextsTo}
use Rattle.checkpoint_disk.proofs.tuples.read_nexts.Given as goal

-- the pairs so far and those still read are all of them, and they increase up to here
abbrev pub invariant-loop-turn : goal.invariant-loop-turn
invariant-loop-turn l =
    (before l.pairs.items (chain next_at after_ring (l.count - l._turn) l.least l.fields) ≡ chain next_at after_ring l.count 0 l.fn.fields)
    × (length l.pairs.items ≡ l._turn) × AreNextsTo 0 l.least l.pairs.items
