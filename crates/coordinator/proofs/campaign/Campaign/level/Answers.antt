use Rattle.std.proofs.Common.{◌≡◌, ◌∙◌, List, length, ap, subst, arith}
use Rattle.std.specs.Prelude.{nat_lt}
use Rattle.mrp_types.specs.declared.id.NodeId.{NodeId}
use Rattle.mrp_types.specs.declared.value.Value.TheVariants.{Skip}
use Rattle.skip_leveller.specs.Levelling.{answer_of}
use Rattle.protocol.specs.Parts.{Campaign, Part, Effects}
use Rattle.protocol.specs.Effects.{no_effects}
use Rattle.protocol.specs.Proposing.{offers}
use Rattle.protocol.specs.Leading.{with_tick_taken, shortfall_from}
use Rattle.gate_log.proofs.Answering.{on_ok}
use Rattle.coordinator.specs.Offers.{Made}
use Rattle.coordinator.proofs.Offering.{offers_part, offered_seated, nothing_behind, ticked, shortfall_range, made_alike, levelled}
use Rattle.coordinator.proofs.campaign.Campaign.level.Goals as goal

pub returns : goal.returns
returns c = on_ok c.propose.result c.propose.ensures (λ proposed ring link part is seated trim held.
    let next : c.self.inside.next ≡ c.args.self.now.next = ap (λ (x : Campaign). x.next) c.self.view_is in
    let under = c.if-self-ge-END.false in
    let tick = ticked c.args.self.now c.self.inside.ballot c.self.inside.next c.self.inside.covered.items c.self.inside.reports c.self.inside.outstanding.items c.self.inside.queue c.self.inside.leveller c.tick.new.self c.self.view_is c.tick.ensures.kept in
    let range = shortfall_range c.self.inside.next c.args.self.now.next c.min.result c.in-Some.missing next c.min.ensures in
    let counted = c.in_ok-offer.ensures.counted ring (ap (λ (nodes : List NodeId). length nodes) is.acceptors) in
    let made = c.in_ok-offer.ensures.made ring link (no_effects part) c.args.changes.now c.args.out.now c.args.learned.now is (nothing_behind part c.args.changes.now c.args.out.now c.args.learned.now) in
    subst (λ (e : Effects). Made e c.propose.new.self c.args.changes.now c.propose.new.changes c.args.out.now c.propose.new.out c.args.learned.now c.propose.new.learned)
    (levelled ring link part c.args.self.now c.in-Some.missing c.args.window c.has_room.result (c.in-Some.ensures.answer_kept ∙ ap (λ (x : Campaign). answer_of x.leveller) c.self.view_is) seated.room
    (c.has_room.ensures ∙ ap (λ (x : Campaign). nat_lt (length x.outstanding) c.args.window) c.self.view_is) c.if-not-has_room.false (omega arith))
    (proposed ring link (offers ring link (with_tick_taken c.args.self.now) (shortfall_from c.args.self.now.next c.in-Some.missing) 0 (no_effects part)) c.args.changes.now c.args.out.now c.args.learned.now is
    (offered_seated ring c.args.window (record { lo = c.self.inside.next; hi = c.min.result; value = Skip }) 0 (record { ballot = c.self.inside.ballot; next = c.self.inside.next; covered = c.self.inside.covered.items; reports = c.self.inside.reports; outstanding = c.self.inside.outstanding.items; pending = c.self.inside.queue; leveller = c.tick.new.self }) c.offer.new.self counted (record { room = seated.room; seats = ap (λ (x : Campaign). length x.covered) c.self.view_is ∙ seated.seats }))
    (ap (λ (p : Part). p.kept.trim) (offers_part ring link (with_tick_taken c.args.self.now) (shortfall_from c.args.self.now.next c.in-Some.missing) 0 (no_effects part)) ∙ trim)
    (ap (λ (p : Part). p.learner.held) (offers_part ring link (with_tick_taken c.args.self.now) (shortfall_from c.args.self.now.next c.in-Some.missing) 0 (no_effects part)) ∙ held)
    (made_alike ring link _ _ _ _ 0 (no_effects part) c.offer.new.self c.args.changes.now c.offer.new.changes c.args.out.now c.offer.new.out c.args.learned.now c.offer.new.learned tick range made)))
