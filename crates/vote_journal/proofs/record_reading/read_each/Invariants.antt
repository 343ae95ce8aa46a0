use Rattle.std.proofs.Common.{◌≡◌, ◌-◌}
use Rattle.vote_journal.specs.Grammar.{changes_at}
use Rattle.vote_journal.proofs.RecordLaws.{before}
use Rattle.vote_journal.proofs.record_reading.read_each.Given as goal

-- what was read so far and what is still read are all of it
abbrev pub invariant-loop-turn : goal.invariant-loop-turn
invariant-loop-turn l = before l.changes (changes_at (l.most - l._turn) l.fields) ≡ changes_at l.most l.fn.fields
