use Rattle.std.proofs.Common.{Some, None, ap}
use Rattle.protocol.specs.Parts.{Active, Learner}
use Rattle.protocol.specs.Effects.{no_effects}
use Rattle.protocol.specs.Proposing.{proposes}
use Rattle.gate_log.proofs.Answering.{on_ok}
use Rattle.ring_view.proofs.ViewLemmas.{trim_read}
use Rattle.coordinator.specs.Standing.{Led, led_in, role_of}
use Rattle.coordinator.proofs.Offering.{nothing_behind}
use Rattle.coordinator.proofs.Rows.{led_with, role_is, part_role, seated, idle_proposes, makes_nothing, makes_of, proposes_top}
use Rattle.coordinator.proofs.coordinator.Coordinator.propose.Goals as goal

pub returns-in_default : goal.returns-in_default
returns-in_default c = λ ring link part shows stands learner.
    makes_nothing (proposes ring link part) part c.args.self.now (led_with c.self.inside.window c.self.inside.lambda c.self.inside.delta c.self.inside.top (role_of c.self.inside.campaign)) c.args.changes.now c.args.out.now c.args.learned.now
    (idle_proposes ring link part c.args.self.now stands (role_is c.self.inside.window c.self.inside.lambda c.self.inside.delta c.self.inside.top c.self.inside.campaign None c.args.self.now c.in_default.is c.self.view_is)) stands.table c.self.view_is

pub returns : goal.returns
returns c = on_ok c.propose.result c.propose.ensures (λ proposed ring link part shows stands learner.
    makes_of (proposes ring link part) part c.args.self.now (led_with c.self.inside.window c.self.inside.lambda c.self.inside.delta c.self.inside.top (Active c.propose.new.self)) c.propose.new.self c.args.changes.now c.propose.new.changes c.args.out.now c.propose.new.out c.args.learned.now c.propose.new.learned
    stands.table (proposes_top ring link part) (ap (λ (l : Led). led_in (Active c.propose.new.self) l) c.self.view_is)
    (proposed ring link (no_effects part) c.args.changes.now c.args.out.now c.args.learned.now shows.is_view
    (seated ring link part c.args.self.now stands c.self.inside.window c.in-Some.campaign (role_is c.self.inside.window c.self.inside.lambda c.self.inside.delta c.self.inside.top c.self.inside.campaign (Some c.in-Some.campaign) c.args.self.now c.in-Some.is c.self.view_is) (ap (λ (l : Led). l.window) c.self.view_is))
    (trim_read c.args.view.now c.args.durable.now c.args.changes.now ring link part shows c.trim_after-trim.result c.items.result.now c.items.ensures c.trim_after-trim.ensures.trim)
    (ap (λ (l : Learner). l.held) learner)
    (record { role = part_role ring link part c.args.self.now stands (Active c.in-Some.campaign) (role_is c.self.inside.window c.self.inside.lambda c.self.inside.delta c.self.inside.top c.self.inside.campaign (Some c.in-Some.campaign) c.args.self.now c.in-Some.is c.self.view_is); behind = nothing_behind part c.args.changes.now c.args.out.now c.args.learned.now })))
