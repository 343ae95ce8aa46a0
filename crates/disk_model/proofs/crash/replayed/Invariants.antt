use Rattle.std.proofs.Common.{◌≡◌, drop}
use Rattle.disk_model.specs.Calls.{own}
use Rattle.disk_model.specs.Steps.{after}
use Rattle.disk_model.proofs.crash.replayed.Given as goal

abbrev pub invariant-loop-call : goal.invariant-loop-call
invariant-loop-call l = after l.file (own l.area (drop l.call-index l.calls)) ≡ after l.start (own l.area l.calls)
