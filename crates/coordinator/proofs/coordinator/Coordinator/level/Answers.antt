use Rattle.std.proofs.Common.{Some, None, ap}
use Rattle.skip_leveller.specs.Levelling.{answer_of}
use Rattle.protocol.specs.Parts.{Active, Learner}
use Rattle.protocol.specs.Leading.{levels, levels_by, with_tick_taken}
use Rattle.gate_log.proofs.Answering.{on_ok}
use Rattle.ring_view.proofs.ViewLemmas.{trim_read}
use Rattle.coordinator.specs.Standing.{Led, led_in, role_of}
use Rattle.coordinator.proofs.Covering.{leads_of}
use Rattle.coordinator.proofs.Rows.{led_with, same_led, role_is, seated, idle_levels, rests_levels, leads_levels, makes_nothing, makes_of, same_table, levels_top}
use Rattle.coordinator.proofs.coordinator.Coordinator.level.Goals as goal

pub returns-in_default : goal.returns-in_default
returns-in_default c = λ ring link part shows stands learner.
    makes_nothing (levels ring link part) part c.args.self.now (led_with c.self.inside.window c.self.inside.lambda c.self.inside.delta c.self.inside.top (role_of c.self.inside.campaign)) c.args.changes.now c.args.out.now c.args.learned.now
    (idle_levels ring link part c.args.self.now stands (role_is c.self.inside.window c.self.inside.lambda c.self.inside.delta c.self.inside.top c.self.inside.campaign None c.args.self.now c.in_default.is c.self.view_is)) stands.table c.self.view_is

pub returns-then-not-leads : goal.returns-then-not-leads
returns-then-not-leads c = λ ring link part shows stands learner.
    makes_nothing (levels ring link part) part c.args.self.now (led_with c.self.inside.window c.self.inside.lambda c.self.inside.delta c.self.inside.top (Active c.in-Some.campaign)) c.args.changes.now c.args.out.now c.args.learned.now
    (rests_levels ring link part c.args.self.now stands c.in-Some.campaign c.leads.result (role_is c.self.inside.window c.self.inside.lambda c.self.inside.delta c.self.inside.top c.self.inside.campaign (Some c.in-Some.campaign) c.args.self.now c.in-Some.is c.self.view_is)
    (leads_of ring c.args.self.now part c.in-Some.campaign c.leads.result stands (role_is c.self.inside.window c.self.inside.lambda c.self.inside.delta c.self.inside.top c.self.inside.campaign (Some c.in-Some.campaign) c.args.self.now c.in-Some.is c.self.view_is) c.leads.ensures) c.if-not-leads.true) stands.table
    (same_led c.self.inside.window c.self.inside.lambda c.self.inside.delta c.self.inside.top c.self.inside.campaign (Some c.in-Some.campaign) c.args.self.now c.in-Some.is c.self.view_is)

pub returns : goal.returns
returns c = on_ok c.level.result c.level.ensures (λ levelled ring link part shows stands learner.
    same_table (levels_by ring link part (with_tick_taken c.in-Some.campaign) (answer_of c.in-Some.campaign.leveller)) (levels ring link part) c.args.self.now (led_with c.self.inside.window c.self.inside.lambda c.self.inside.delta c.self.inside.top (Active c.level.new.self)) c.args.changes.now c.level.new.changes c.args.out.now c.level.new.out c.args.learned.now c.level.new.learned
    (leads_levels ring link part c.args.self.now stands c.in-Some.campaign c.leads.result (role_is c.self.inside.window c.self.inside.lambda c.self.inside.delta c.self.inside.top c.self.inside.campaign (Some c.in-Some.campaign) c.args.self.now c.in-Some.is c.self.view_is) (leads_of ring c.args.self.now part c.in-Some.campaign c.leads.result stands (role_is c.self.inside.window c.self.inside.lambda c.self.inside.delta c.self.inside.top c.self.inside.campaign (Some c.in-Some.campaign) c.args.self.now c.in-Some.is c.self.view_is) c.leads.ensures) c.if-not-leads.false)
    (makes_of (levels_by ring link part (with_tick_taken c.in-Some.campaign) (answer_of c.in-Some.campaign.leveller)) part c.args.self.now (led_with c.self.inside.window c.self.inside.lambda c.self.inside.delta c.self.inside.top (Active c.level.new.self)) c.level.new.self c.args.changes.now c.level.new.changes c.args.out.now c.level.new.out c.args.learned.now c.level.new.learned
    stands.table (levels_top ring link part (with_tick_taken c.in-Some.campaign) (answer_of c.in-Some.campaign.leveller)) (ap (λ (l : Led). led_in (Active c.level.new.self) l) c.self.view_is)
    (levelled ring link part shows.is_view (seated ring link part c.args.self.now stands c.self.inside.window c.in-Some.campaign (role_is c.self.inside.window c.self.inside.lambda c.self.inside.delta c.self.inside.top c.self.inside.campaign (Some c.in-Some.campaign) c.args.self.now c.in-Some.is c.self.view_is) (ap (λ (l : Led). l.window) c.self.view_is))
    (trim_read c.args.view.now c.args.durable.now c.args.changes.now ring link part shows c.trim_after-trim.result c.items.result.now c.items.ensures c.trim_after-trim.ensures.trim)
    (ap (λ (l : Learner). l.held) learner))))
