use Rattle.std.proofs.Common.{◌≡◌, ◌≤◌}
use Rattle.disk_model.specs.Calls.{own}
use Rattle.disk_model.specs.Crash.{filled_below, dirty_before}
use Rattle.disk_model.specs.Steps.{Kept}
use Rattle.disk_model.proofs.crash.filled.Given as goal

abbrev pub invariant-loop-i : goal.invariant-loop-i
invariant-loop-i l =
    let k : Kept = record { bytes = l.kept; pending = own l.area l.calls } in
    record {
      below : l.image.items ≡ filled_below l.keep l.byte k l.i;
      dirty : l.dirty ≡ dirty_before k l.i;
      bound : l.dirty ≤ l.i;
    }
