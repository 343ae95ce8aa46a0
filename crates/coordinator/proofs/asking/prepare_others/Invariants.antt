use Rattle.std.proofs.Common.{◌≡◌, ◌++◌, drop}
use Rattle.std.specs.Prelude.{flat_map, Some}
use Rattle.frames.specs.declared.body.Body.TheVariants.{Prepare}
use Rattle.mrp_types.specs.declared.id.NodeId.{NodeId}
use Rattle.ring_link.specs.Silence.{Link}
use Rattle.protocol.specs.Parts.{Ring}
use Rattle.protocol.specs.Rings.{sends}
use Rattle.ring_view.specs.Views.{IsViewOf}
use Rattle.coordinator.proofs.asking.prepare_others.Given as goal

-- who was asked, and who is still to be asked
abbrev pub invariant-loop-node : goal.invariant-loop-node
invariant-loop-node l = (ring : Ring) (link : Link) → IsViewOf l.view ring link
    → l.out ++ flat_map (λ (node : NodeId). sends ring (Some node) (Prepare ring.id l.ballot l.lo)) (drop l.node-index l.view.acceptors)
    ≡ l.initial.out ++ flat_map (λ (node : NodeId). sends ring (Some node) (Prepare ring.id l.ballot l.lo)) l.view.acceptors
