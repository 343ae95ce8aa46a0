use Rattle.std.proofs.Common.{◌≡◌, ◌-◌}
use Rattle.mrp_types.specs.Reading.{chain}
use Rattle.command_codec.proofs.Loops.{before}
use Rattle.frames.specs.Ranges.{nothing_before, after_vote}
use Rattle.frames.specs.Grammar.{vote_at}
use Rattle.frames.proofs.lists.read_each_vote.Given as goal

-- the ranges so far and those still read are all of them
abbrev pub invariant-loop-turn : goal.invariant-loop-turn
invariant-loop-turn l =
    before l.votes (chain vote_at after_vote (l.count - l._turn) l.before l.fields) ≡ chain vote_at after_vote l.count nothing_before l.fn.fields
