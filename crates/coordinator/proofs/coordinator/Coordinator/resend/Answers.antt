use Rattle.std.proofs.Common.{Some, None}
use Rattle.gate_log.proofs.Answering.{on_ok}
use Rattle.ring_view.proofs.ViewLemmas.{trim_read}
use Rattle.coordinator.proofs.Rows.{role_is, idle_resends, all_resent}
use Rattle.coordinator.proofs.coordinator.Coordinator.resend.Goals as goal

pub returns-in_default : goal.returns-in_default
returns-in_default c = λ ring link part shows stands. idle_resends ring link part c.args.self.now stands c.args.out.now (role_is c.self.inside.window c.self.inside.lambda c.self.inside.delta c.self.inside.top c.self.inside.campaign None c.args.self.now c.in_default.is c.self.view_is)

pub returns : goal.returns
returns c = on_ok c.accept_again.result c.accept_again.ensures (λ again ring link part shows stands.
    all_resent ring link part c.args.self.now stands c.in-Some.campaign c.trim_after-trim.result c.ballot.result c.ballot-2.result c.covered.result.now c.outstanding.result.now c.args.out.now c.prepare_again.new.out c.accept_again.new.out
    (role_is c.self.inside.window c.self.inside.lambda c.self.inside.delta c.self.inside.top c.self.inside.campaign (Some c.in-Some.campaign) c.args.self.now c.in-Some.is c.self.view_is)
    (trim_read c.args.view.now c.args.durable.now c.args.changes.now ring link part shows c.trim_after-trim.result c.items.result.now c.items.ensures c.trim_after-trim.ensures.trim)
    c.ballot.ensures c.ballot-2.ensures c.covered.ensures c.outstanding.ensures (c.in_ok-prepare_again.ensures ring link shows.is_view) (again ring link shows.is_view))
