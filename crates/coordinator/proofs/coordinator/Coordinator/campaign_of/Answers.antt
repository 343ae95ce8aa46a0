use Rattle.std.proofs.Common.{ℕ, ◌∙◌, List, ap}
use Rattle.mrp_types.specs.declared.voted.Voted.{Voted}
use Rattle.vote_state.specs.declared.cast.Cast.{Cast}
use Rattle.protocol.specs.Ballots.{with_reports}
use Rattle.vote_state.specs.State.{votes_at}
use Rattle.coordinator.specs.Standing.{Led}
use Rattle.coordinator.proofs.Starting.{campaign_is, votes_ordered, leveller_is}
use Rattle.coordinator.proofs.coordinator.Coordinator.campaign_of.Goals as goal

pub returns : goal.returns
returns c = λ ring link kept is lambda delta state trim votes.
    campaign_is ring c.args.ballot c.args.trim c.args.from kept (votes_at c.args.durable.now c.args.view.now.ring) c.in_ok-votes.votes c.add.new.self c.in_ok-covered.covered.items c.new-leveller.result c.new.result
    c.new.ensures (votes_ordered c.args.durable.now c.args.view.now.ring state) c.in_ok-votes.ensures.votes
    (c.in_ok-add.ensures ∙ ap (λ (vs : List Voted). with_reports 0 vs c.new-reports.result) c.items.ensures ∙ ap (λ (es : List (ℕ × Cast)). with_reports 0 c.in_ok-votes.votes es) c.new-reports.ensures)
    (c.in_ok-covered.ensures.covered ring link is)
    (leveller_is c.new-leveller.result c.self.inside.lambda c.self.inside.delta ring.lambda ring.delta c.new-leveller.ensures (ap (λ (l : Led). l.lambda) c.self.view_is ∙ lambda) (ap (λ (l : Led). l.delta) c.self.view_is ∙ delta))
    trim votes
