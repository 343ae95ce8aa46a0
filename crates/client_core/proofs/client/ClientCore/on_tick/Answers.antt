use Rattle.std.proofs.Common.{arith, ◌≡◌, ◌<◌, ◌+◌}
use Rattle.client_core.proofs.Rules.{free_ticks, quiet_follow, beat_follow}
use Rattle.client_core.proofs.client.ClientCore.on_tick.Goals as goal

pub returns-in_default-clause-ticked : goal.returns-in_default-clause-ticked
returns-in_default-clause-ticked c =
    rw (← c.self.view_is) (rw c.in_default.is (free_ticks c.self.inside.deployment c.self.inside.id c.self.inside.next))

pub returns-then-waiting-resend-clause-ticked : goal.returns-then-waiting-resend-clause-ticked
returns-then-waiting-resend-clause-ticked c =
    let some = c.self.invariant.valid.resend.0 in
    let low : c.in-Some.waiting.ticks + 1 < c.self.inside.deployment.resend = omega (arith, c.if-waiting-resend.true, c.resend.ensures) in
    rw (← c.self.view_is) (rw c.in-Some.is (quiet_follow c.self.inside.deployment c.self.inside.id c.self.inside.next c.in-Some.waiting some low))

pub returns-clause-ticked : goal.returns-clause-ticked
returns-clause-ticked c =
    let some = c.self.invariant.valid.resend.0 in
    let asked = rw c.in-Some.is at c.self.invariant.asked in
    let whole : c.in-Some.waiting.ticks + 1 ≡ c.self.inside.deployment.resend = omega (arith, c.if-waiting-resend.false, c.resend.ensures, asked.ticks) in
    rw (← c.self.view_is) (rw c.in-Some.is (beat_follow c.self.inside.deployment c.self.inside.id c.self.inside.next c.in-Some.waiting c.next_turn-turn.result _ some whole c.next_turn-turn.ensures c.in_ok-submit.ensures))
