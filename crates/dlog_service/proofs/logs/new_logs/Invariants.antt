use Rattle.std.proofs.Common.{◌≡◌, ◌++◌, drop, map}
use Rattle.plain_model.specs.Replicas.{empty_log}
use Rattle.dlog_service.proofs.logs.new_logs.Given as goal

-- what was made, and what is still to make
abbrev pub invariant-loop-id : goal.invariant-loop-id
invariant-loop-id l = l.logs.items ++ map empty_log (drop l.id-index l.ids) ≡ map empty_log l.ids
