use Rattle.std.proofs.Common.{◌≡◌, map, take}
use Rattle.std.specs.Prelude.{◌==◌, if◌then◌else◌}
use Rattle.std.specs.List.{AllByRecursion}
use Rattle.mrp_types.specs.declared.id.NodeId.{NodeId}
use Rattle.mrp_types.specs.declared.id.TheConstants.{END}
use Rattle.coordinator.specs.Offers.{IsWithin}
use Rattle.coordinator.proofs.coordinator.covered_at_start.Given as goal

-- those so far
abbrev pub invariant-loop-node : goal.invariant-loop-node
invariant-loop-node l = record {
  same : l.covered.items ≡ map (λ (node : NodeId). if node.0 == l.view.own.0 then END else l.next) (take l.node-index l.node-items);
  within : AllByRecursion IsWithin l.covered.items;
}
