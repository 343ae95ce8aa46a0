use Rattle.std.proofs.Common.{◌≡◌, ◌≤◌, ◌+◌, drop, count_by}
use Rattle.mrp_types.specs.declared.id.NodeId.{NodeId}
use Rattle.mrp_types.specs.Members.{is_member}
use Rattle.trim.proofs.subscribers.count_of.Given as goal

-- those counted and those still to count
abbrev pub invariant-loop-node : goal.invariant-loop-node
invariant-loop-node l = record {
  all : l.count + count_by (λ (node : NodeId). is_member l.answered node.0) (drop l.node-index l.nodes) ≡ count_by (λ (node : NodeId). is_member l.answered node.0) l.nodes;
  few : l.count ≤ l.node-index;
}
