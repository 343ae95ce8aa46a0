use Rattle.std.proofs.Common.{◌≡◌, drop}
use Rattle.checkpoint.specs.Checkpoints.{is_after}
use Rattle.recovery.proofs.answers.is_one_after.Given as goal

-- what is left decides
abbrev pub invariant-loop-i : goal.invariant-loop-i
invariant-loop-i l = is_after (drop l.i l.a) (drop l.i l.b) ≡ is_after l.a l.b
