use Rattle.std.proofs.Common.{◌≡◌, ◌++◌, drop}
use Rattle.vote_journal.specs.Spelling.{changes_bytes}
use Rattle.vote_journal.proofs.record.put_changes.Given as goal

-- what is written, and what is still to write
abbrev pub invariant-loop-change : goal.invariant-loop-change
invariant-loop-change l = l.out ++ changes_bytes (drop l.change-index l.changes) ≡ l.initial.out ++ changes_bytes l.changes
