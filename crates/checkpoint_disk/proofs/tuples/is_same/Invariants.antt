use Rattle.std.proofs.Common.{◌≡◌, drop, length}
use Rattle.checkpoint.specs.Checkpoints.{is_same_tuple}
use Rattle.checkpoint_disk.proofs.tuples.is_same.Given as goal

-- what is left decides
abbrev pub invariant-loop-i : goal.invariant-loop-i
invariant-loop-i l = (is_same_tuple (drop l.i l.own) (drop l.i l.others) ≡ is_same_tuple l.own l.others) × (length l.own ≡ length l.others)
