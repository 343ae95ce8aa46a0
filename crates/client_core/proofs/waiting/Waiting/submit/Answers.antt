use Rattle.std.proofs.Common.{ap, sym, ◌∙◌, ◌≡◌, Some, slice_get, subst, refl}
use Rattle.mrp_types.specs.declared.id.RingId.{RingId}
use Rattle.mrp_config.specs.Config.{ring_at}
use Rattle.protocol.specs.Client.{acceptors_of, acceptor_at}
use Rattle.client_core.proofs.waiting.Waiting.submit.Goals as goal

pub returns : goal.returns
returns c = λ view a id seq command ring turn.
    let to : acceptor_at a.tries (acceptors_of (ring_at c.args.deployment.now.rings a.ring.0)) ≡ Some c.acceptor_of-to.result =
    ap (slice_get (acceptors_of (ring_at c.args.deployment.now.rings a.ring.0))) turn
    ∙ subst (λ (r : RingId). slice_get (acceptors_of (ring_at c.args.deployment.now.rings r.0)) c.args.turn ≡ Some c.acceptor_of-to.result) (sym ring) c.acceptor_of-to.ensures in
    rw to (rw (id, seq, ring, command, ← c.in_ok-command.ensures) refl)
