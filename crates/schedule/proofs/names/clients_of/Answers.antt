use Rattle.std.proofs.Common.{sym, ◌∙◌}
use Rattle.schedule.specs.Generating.{named_below, client_named}
use Rattle.schedule.specs.Fields.{is_client}
use Rattle.schedule.proofs.Drawing.{named_none, named_one, named_other}
use Rattle.schedule.proofs.names.clients_of.Goals as goal
use Rattle.schedule.proofs.names.clients_of.Goals.{then-has_client+in_ok-push, else-has_client}

pub loop-id-init : goal.loop-id-init
loop-id-init c = c.new-clients.ensures ∙ sym (named_none client_named (is_client c.args.deployment.now))

pub loop-id-preserved : goal.loop-id-preserved
loop-id-preserved c =
    let id = c.loop-id.id in
    elim c.if-has_client.branch [
      | then-has_client+in_ok-push w ↦
          let one = named_one client_named (is_client c.args.deployment.now) id (sym c.has_client.ensures ∙ w.if-has_client.true) in
          cc (one, c.loop-id.invariant, w.in_ok-push.ensures.ok, w.clients-is)
      | else-has_client w ↦
          let other = named_other client_named (is_client c.args.deployment.now) id (sym c.has_client.ensures ∙ w.if-has_client.false) in
          cc (other, c.loop-id.invariant, w.clients-is)
    ]
