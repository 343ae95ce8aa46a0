use Rattle.std.proofs.Common.{◌≡◌}
use Rattle.schedule.specs.Fields.{is_node}
use Rattle.schedule.specs.Generating.{named_below, node_named}
use Rattle.schedule.proofs.names.nodes_of.Given as goal

-- those below this id
abbrev pub invariant-loop-id : goal.invariant-loop-id
invariant-loop-id l = l.nodes ≡ named_below node_named (is_node l.deployment) l.id
