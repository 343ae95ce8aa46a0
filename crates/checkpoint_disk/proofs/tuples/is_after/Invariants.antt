use Rattle.std.proofs.Common.{◌≡◌, drop}
use Rattle.checkpoint.specs.Checkpoints.{is_after}
use Rattle.checkpoint_disk.proofs.tuples.is_after.Given as goal

-- what is left decides
abbrev pub invariant-loop-i : goal.invariant-loop-i
invariant-loop-i l = is_after (drop l.i l.own) (drop l.i l.others) ≡ is_after l.own l.others
