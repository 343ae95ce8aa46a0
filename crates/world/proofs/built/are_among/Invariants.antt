use Rattle.std.proofs.Common.{ℕ, ◌<◌, Contains}
use Rattle.std.specs.Prelude.{slice_index_or}
use Rattle.mrp_types.specs.declared.id.NodeId.{NodeId}
use Rattle.world.proofs.built.are_among.Given as goal

-- those before are among the others
abbrev pub invariant-loop-node : goal.invariant-loop-node
invariant-loop-node l = record {
  among : (k : ℕ) (d : NodeId) → k < l.node-index → Contains l.others (slice_index_or l.nodes k d);
}
