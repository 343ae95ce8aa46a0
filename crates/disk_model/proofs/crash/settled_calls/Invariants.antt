use Rattle.std.proofs.Common.{◌≤◌, length, drop}
use Rattle.disk_model.specs.Crash.{NoSync}
use Rattle.disk_model.proofs.crash.settled_calls.Given as goal

abbrev pub invariant-loop-settled : goal.invariant-loop-settled
invariant-loop-settled l = record {
  within : l.settled ≤ length l.calls;
  none_since : NoSync (drop l.settled l.calls);
}

abbrev pub decreases-loop-settled : goal.decreases-loop-settled
decreases-loop-settled l = l.settled
