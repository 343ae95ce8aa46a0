use Rattle.std.proofs.Common.{◌≡◌, ◌+◌, drop}
use Rattle.disk_model.specs.Steps.{written}
use Rattle.disk_model.proofs.octets.copy_inside.Given as goal

abbrev pub invariant-loop-i : goal.invariant-loop-i
invariant-loop-i l = record {
  whole : written (l.at + l.i) (drop l.i l.from) l.bytes.items ≡ written l.at l.from l.initial.bytes.items;
}
