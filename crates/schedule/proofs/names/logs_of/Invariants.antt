use Rattle.std.proofs.Common.{◌≡◌}
use Rattle.schedule.specs.Fields.{is_held}
use Rattle.schedule.specs.Generating.{named_below, log_named}
use Rattle.schedule.proofs.names.logs_of.Given as goal

-- those below this id
abbrev pub invariant-loop-id : goal.invariant-loop-id
invariant-loop-id l = l.logs ≡ named_below log_named (is_held l.partitions) l.id
