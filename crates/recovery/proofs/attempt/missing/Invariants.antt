use Rattle.std.proofs.Common.{◌≡◌, ◌||◌, drop}
use Rattle.mrp_types.specs.declared.id.NodeId.{NodeId}
use Rattle.mrp_types.specs.Members.{is_member}
use Rattle.mrp_types.specs.Seats.{numbers_of_nodes}
use Rattle.mrp_config.specs.Valid.{AreAtMost}
use Rattle.recovery.specs.Attempts.{awaits}
use Rattle.recovery.proofs.attempt.missing.Given as goal

-- those found and those still to find
abbrev pub invariant-loop-node : goal.invariant-loop-node
invariant-loop-node l = record {
  all : (node : NodeId) → (is_member l.missing node.0 || awaits node l.answers (drop l.node-index l.nodes)) ≡ awaits node l.answers l.nodes;
  rest : AreAtMost 31 (numbers_of_nodes (drop l.node-index l.nodes));
}
