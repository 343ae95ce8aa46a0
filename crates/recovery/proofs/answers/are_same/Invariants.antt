use Rattle.std.proofs.Common.{◌≡◌, drop}
use Rattle.checkpoint.specs.Checkpoints.{is_same_tuple}
use Rattle.recovery.proofs.answers.are_same.Given as goal

-- what is left decides
abbrev pub invariant-loop-i : goal.invariant-loop-i
invariant-loop-i l = is_same_tuple (drop l.i l.a) (drop l.i l.b) ≡ is_same_tuple l.a l.b
