use Rattle.std.proofs.Common.{◌∙◌, ℕ, List, Some, sym, ap}
use Rattle.mrp_types.specs.declared.id.NodeId.{NodeId}
use Rattle.mrp_types.specs.Seats.{seat_of}
use Rattle.protocol.specs.Parts.{Active}
use Rattle.gate_log.proofs.Answering.{on_ok}
use Rattle.coordinator.specs.Standing.{Led, led_in}
use Rattle.coordinator.proofs.Rows.{led_with, same_led, role_is, seat_in, page_dropped, page_taken}
use Rattle.coordinator.proofs.coordinator.Coordinator.on_promise.Goals as goal

pub returns-then-not-counts : goal.returns-then-not-counts
returns-then-not-counts c = λ ring link part is stands.
    page_dropped ring part c.args.self.now c.args.from (record { ballot = c.args.ballot; lo = c.args.lo; hi = c.args.hi; votes = c.args.votes.now }) c.in-Some.campaign c.from-position.result stands
    (role_is c.self.inside.window c.self.inside.lambda c.self.inside.delta c.self.inside.top c.self.inside.campaign (Some c.in-Some.campaign) c.args.self.now c.in-Some.is c.self.view_is)
    (sym (c.in-Some-position.ensures ∙ ap (λ (nodes : List NodeId). seat_of c.args.from nodes) is.acceptors) ∙ ap (λ (n : ℕ). Some n) (sym c.from-position.ensures))
    (led_with c.self.inside.window c.self.inside.lambda c.self.inside.delta c.self.inside.top (Active c.in-Some.campaign)) c.args.out.now
    (same_led c.self.inside.window c.self.inside.lambda c.self.inside.delta c.self.inside.top c.self.inside.campaign (Some c.in-Some.campaign) c.args.self.now c.in-Some.is c.self.view_is)
    (sym (c.counts.ensures.counts c.args.votes.now (seat_in ring part c.args.self.now c.args.from (record { ballot = c.args.ballot; lo = c.args.lo; hi = c.args.hi; votes = c.args.votes.now }) c.in-Some.campaign c.from-position.result stands
    (role_is c.self.inside.window c.self.inside.lambda c.self.inside.delta c.self.inside.top c.self.inside.campaign (Some c.in-Some.campaign) c.args.self.now c.in-Some.is c.self.view_is)
    (sym (c.in-Some-position.ensures ∙ ap (λ (nodes : List NodeId). seat_of c.args.from nodes) is.acceptors) ∙ ap (λ (n : ℕ). Some n) (sym c.from-position.ensures)))) ∙ c.if-not-counts.true)

pub returns : goal.returns
returns c = on_ok c.prepare.result c.prepare.ensures (λ asked ring link part is stands.
    page_taken ring part c.args.self.now c.args.from (record { ballot = c.args.ballot; lo = c.args.lo; hi = c.args.hi; votes = c.args.votes.now }) c.in-Some.campaign c.from-position.result stands
    (role_is c.self.inside.window c.self.inside.lambda c.self.inside.delta c.self.inside.top c.self.inside.campaign (Some c.in-Some.campaign) c.args.self.now c.in-Some.is c.self.view_is)
    (sym (c.in-Some-position.ensures ∙ ap (λ (nodes : List NodeId). seat_of c.args.from nodes) is.acceptors) ∙ ap (λ (n : ℕ). Some n) (sym c.from-position.ensures))
    (led_with c.self.inside.window c.self.inside.lambda c.self.inside.delta c.self.inside.top (Active c.report.new.self)) c.report.new.self c.args.out.now c.prepare.new.out
    (ap (λ (l : Led). led_in (Active c.report.new.self) l) c.self.view_is) c.in_ok-report.ensures c.requires.end (asked ring link is)
    (sym (c.counts.ensures.counts c.args.votes.now (seat_in ring part c.args.self.now c.args.from (record { ballot = c.args.ballot; lo = c.args.lo; hi = c.args.hi; votes = c.args.votes.now }) c.in-Some.campaign c.from-position.result stands
    (role_is c.self.inside.window c.self.inside.lambda c.self.inside.delta c.self.inside.top c.self.inside.campaign (Some c.in-Some.campaign) c.args.self.now c.in-Some.is c.self.view_is)
    (sym (c.in-Some-position.ensures ∙ ap (λ (nodes : List NodeId). seat_of c.args.from nodes) is.acceptors) ∙ ap (λ (n : ℕ). Some n) (sym c.from-position.ensures)))) ∙ c.if-not-counts.false))
