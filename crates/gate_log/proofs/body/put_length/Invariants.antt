use Rattle.std.proofs.Common.{◌≡◌, take, drop}
use Rattle.gate_log.proofs.body.put_length.Given as goal

abbrev pub invariant-loop-i : goal.invariant-loop-i
invariant-loop-i l = record {
  front : take l.i l.written.items ≡ take l.i l.digits;
  rest : drop l.i l.written.items ≡ drop l.i l.initial.written.items;
}
