use Rattle.std.proofs.Common.{◌≡◌, drop}
use Rattle.mrp_types.specs.Moves.{order_of}
use Rattle.mrp_types.proofs.tuple.order_between.Given as goal

-- what is left decides
abbrev pub invariant-loop-i : goal.invariant-loop-i
invariant-loop-i l = order_of (drop l.i l.own) (drop l.i l.others) ≡ order_of l.own l.others
