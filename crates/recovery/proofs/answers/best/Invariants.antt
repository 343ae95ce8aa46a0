use Rattle.std.proofs.Common.{◌≡◌, drop, Some}
use Rattle.protocol.specs.Recovery.{best_of}
use Rattle.recovery.specs.Attempts.{best_answer}
use Rattle.recovery.proofs.answers.best.Given as goal

-- the best of those before and of what is left
abbrev pub invariant-loop-i : goal.invariant-loop-i
invariant-loop-i l = best_answer l.own l.answers ≡ Some (best_of l.own l.best (drop l.i l.answers))
