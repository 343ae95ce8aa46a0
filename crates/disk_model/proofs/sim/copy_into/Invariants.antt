use Rattle.std.proofs.Common.{◌≡◌, take, drop}
use Rattle.disk_model.proofs.sim.copy_into.Given as goal

abbrev pub invariant-loop-i : goal.invariant-loop-i
invariant-loop-i l = record {
  front : take l.i l.into ≡ take l.i (drop l.at l.bytes);
  rest : drop l.i l.into ≡ drop l.i l.initial.into;
}
