use Rattle.std.proofs.Common.{sym, ◌∙◌}
use Rattle.schedule.specs.Generating.{named_below, node_named}
use Rattle.schedule.specs.Fields.{is_node}
use Rattle.schedule.proofs.Drawing.{named_none, named_one, named_other}
use Rattle.schedule.proofs.names.nodes_of.Goals as goal
use Rattle.schedule.proofs.names.nodes_of.Goals.{then-has_node+in_ok-push, else-has_node}

pub loop-id-init : goal.loop-id-init
loop-id-init c = c.new-nodes.ensures ∙ sym (named_none node_named (is_node c.args.deployment.now))

pub loop-id-preserved : goal.loop-id-preserved
loop-id-preserved c =
    let id = c.loop-id.id in
    elim c.if-has_node.branch [
      | then-has_node+in_ok-push w ↦
          let one = named_one node_named (is_node c.args.deployment.now) id (sym c.has_node.ensures ∙ w.if-has_node.true) in
          cc (one, c.loop-id.invariant, w.in_ok-push.ensures.ok, w.nodes-is)
      | else-has_node w ↦
          let other = named_other node_named (is_node c.args.deployment.now) id (sym c.has_node.ensures ∙ w.if-has_node.false) in
          cc (other, c.loop-id.invariant, w.nodes-is)
    ]
