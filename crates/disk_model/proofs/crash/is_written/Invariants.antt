use Rattle.std.proofs.Common.{◌≡◌, drop}
use Rattle.std.specs.List.{list_any}
use Rattle.disk_model.specs.Calls.{own}
use Rattle.disk_model.specs.Crash.{covers}
use Rattle.disk_model.proofs.crash.is_written.Given as goal

abbrev pub invariant-loop-call : goal.invariant-loop-call
invariant-loop-call l = list_any (covers l.position) (own l.area (drop l.call-index l.calls)) ≡ list_any (covers l.position) (own l.area l.calls)
