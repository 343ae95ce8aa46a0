use Rattle.std.proofs.Common.{◌≡◌, drop}
use Rattle.vote_journal.specs.Epochs.{epochs_rise}
use Rattle.vote_journal.proofs.epochs.do_epochs_rise.Given as goal

-- what is left to judge
abbrev pub invariant-loop-change : goal.invariant-loop-change
invariant-loop-change l = epochs_rise l.last (drop l.change-index l.changes) ≡ epochs_rise l.before l.changes
