use Rattle.std.proofs.Common.{arith, ◌≡◌, ap, sym, ◌∙◌}
use Rattle.protocol.specs.Client.{Asked}
use Rattle.client_core.proofs.Routed.{routed_to_acceptors}
use Rattle.client_core.proofs.Keeping.{none_are}
use Rattle.client_core.proofs.Rules.{asks_follow}
use Rattle.client_core.proofs.client.ClientCore.ask.Goals as goal

pub submit-requires-clause-seat : goal.submit-requires-clause-seat
submit-requires-clause-seat c =
    let some = routed_to_acceptors c.self.inside.deployment c.args.command.now c.in-Ok.ring c.self.invariant.valid (sym c.route.ensures ∙ c.in-Ok.is) in
    let ring : c.in_ok-waiting.waiting.ring ≡ c.in-Ok.ring = ap (λ (a : Asked). a.ring) c.in_ok-waiting.ensures in
    rw ring some

pub invariant_of-self : goal.invariant_of-self
invariant_of-self c =
    let some = routed_to_acceptors c.self.inside.deployment c.args.command.now c.in-Ok.ring c.self.invariant.valid (sym c.route.ensures ∙ c.in-Ok.is) in
    let low = c.if-self-gt-LAST_SEQ.false in
    record {
      valid = c.self.invariant.valid;
      first = omega (arith, c.self.invariant.first);
      last = omega (arith, low);
      asked = rw c.in_ok-waiting.ensures (record {
        first = c.self.invariant.first;
        last = omega (arith, low);
        command = c.requires;
        ticks = c.self.invariant.valid.resend.0;
        tries = some;
        parts = none_are c.args.command.now c.self.inside.deployment.partitions;
      });
    }

pub returns-clause-asked : goal.returns-clause-asked
returns-clause-asked c =
    let low = c.if-self-gt-LAST_SEQ.false in
    rw (← c.self.view_is) (rw c.in_default.is (asks_follow c.self.inside.deployment c.self.inside.id c.self.inside.next c.args.command.now c.in-Ok.ring c.in_ok-waiting.waiting _
    (sym c.route.ensures ∙ c.in-Ok.is) (omega (arith, low)) c.in_ok-waiting.ensures c.in_ok-submit.ensures))
