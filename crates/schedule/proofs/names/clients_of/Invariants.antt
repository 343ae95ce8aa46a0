use Rattle.std.proofs.Common.{◌≡◌}
use Rattle.schedule.specs.Fields.{is_client}
use Rattle.schedule.specs.Generating.{named_below, client_named}
use Rattle.schedule.proofs.names.clients_of.Given as goal

-- those below this id
abbrev pub invariant-loop-id : goal.invariant-loop-id
invariant-loop-id l = l.clients ≡ named_below client_named (is_client l.deployment) l.id
