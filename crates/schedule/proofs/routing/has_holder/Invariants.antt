use Rattle.std.proofs.Common.{◌≡◌, drop}
use Rattle.schedule.specs.Fields.{is_held}
use Rattle.schedule.proofs.routing.has_holder.Given as goal

-- what is left to look through
abbrev pub invariant-loop-p : goal.invariant-loop-p
invariant-loop-p l = is_held (drop l.p-index l.partitions) l.log.0 ≡ is_held l.partitions l.log.0
