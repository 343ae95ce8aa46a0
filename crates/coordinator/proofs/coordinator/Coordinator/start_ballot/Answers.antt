use Rattle.std.proofs.Common.{ℕ, ap, subst}
use Rattle.protocol.specs.Parts.{Active}
use Rattle.protocol.specs.Effects.{no_effects}
use Rattle.protocol.specs.Acceptor.{promises}
use Rattle.protocol.specs.Ballots.{campaigns, own_ballot}
use Rattle.ring_view.proofs.ViewLemmas.{trim_read}
use Rattle.coordinator.specs.Standing.{Led, led_in, Begins}
use Rattle.coordinator.proofs.Starting.{starts, owned, told_true, votes_shown}
use Rattle.coordinator.proofs.Rows.{led_with}
use Rattle.coordinator.proofs.coordinator.Coordinator.start_ballot.Goals as goal

pub returns-clause-told : goal.returns-clause-told
returns-clause-told c = λ ring link part position shows stands seat.
    let own = c.in-Some.ensures ring link position shows.is_view seat in
    told_true c.in-Some.ballot (own_ballot ring part position) (owned ring part position c.floor-floor.result c.in-Some.ballot (c.floor-floor.ensures ring link part shows stands.table) own.0) own.1

pub returns-clause-started : goal.returns-clause-started
returns-clause-started c = λ told ring link part position shows stands state only seat.
    let own = c.in-Some.ensures ring link position shows.is_view seat in
    let trimmed = (trim_read c.args.view.now c.args.durable.now c.args.changes.now ring link part shows c.trim_after-trim.result c.items.result.now c.items.ensures c.trim_after-trim.ensures.trim) in
    subst (λ (b : ℕ). Begins (campaigns ring b (promises ring b (no_effects part))) c.args.self.now (led_with c.self.inside.window c.self.inside.lambda c.self.inside.delta c.self.inside.top (Active c.in_ok-campaign.campaign)) c.args.changes.now c.push.new.self c.args.out.now c.prepare_others.new.out)
    (owned ring part position c.floor-floor.result c.in-Some.ballot (c.floor-floor.ensures ring link part shows stands.table) own.0)
    (starts ring c.in-Some.ballot part c.args.self.now (led_with c.self.inside.window c.self.inside.lambda c.self.inside.delta c.self.inside.top (Active c.in_ok-campaign.campaign)) c.in_ok-campaign.campaign c.args.changes.now c.push.new.self c.args.out.now c.prepare_others.new.out c.args.view.now.ring c.trim_after-trim.result
    stands.table
    (c.in_ok-campaign.ensures ring link part.kept shows.is_view stands.lambda stands.delta state trimmed (votes_shown c.args.view.now c.args.durable.now c.args.changes.now c.items-2.result.now ring link part c.kept_from-from.result shows only c.items-2.ensures c.kept_from-from.ensures))
    (ap (λ (l : Led). led_in (Active c.in_ok-campaign.campaign) l) c.self.view_is) shows.is_view.id trimmed c.in_ok-push.ensures.ok (c.in_ok-prepare_others.ensures ring link shows.is_view))
