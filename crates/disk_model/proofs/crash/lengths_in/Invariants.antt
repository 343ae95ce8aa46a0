use Rattle.std.proofs.Common.{◌≡◌, ◌≤◌, min, max, length, drop}
use Rattle.disk_model.specs.Calls.{own}
use Rattle.disk_model.specs.Steps.{least, most}
use Rattle.disk_model.proofs.crash.lengths_in.Given as goal

abbrev pub invariant-loop-call : goal.invariant-loop-call
invariant-loop-call l = record {
  low : l.low ≤ length l.file;
  high : length l.file ≤ l.high;
  least : min l.low (least l.file (own l.area (drop l.call-index l.calls))) ≡ least l.start (own l.area l.calls);
  most : max l.high (most l.file (own l.area (drop l.call-index l.calls))) ≡ most l.start (own l.area l.calls);
}
