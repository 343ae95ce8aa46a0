use Rattle.std.proofs.Common.{◌∙◌, ◌++◌, List, Bool, length, sym, ap}
use Rattle.std.proofs.lemmas.List.{append-nil}
use Rattle.mrp_types.specs.declared.id.NodeId.{NodeId}
use Rattle.protocol.specs.Parts.{Campaign}
use Rattle.protocol.specs.Proposing.{vote_of}
use Rattle.ring_view.specs.Views.{where_decided}
use Rattle.gate_log.proofs.Answering.{on_ok}
use Rattle.coordinator.proofs.Offering.{one_offered}
use Rattle.coordinator.proofs.campaign.Campaign.offer.Goals as goal

pub returns-then-not-decided-clause-made : goal.returns-then-not-decided-clause-made
returns-then-not-decided-clause-made c = λ ring link effects cb fb lb is behind.
    one_offered ring link c.args.self.now c.args.offer.range c.args.offer.taken effects c.count.new.self c.args.view.now.ring c.own_mask.result c.in_ok-vote.vote c.in_ok-recorded.recorded cb c.args.changes.now c.push.new.self fb c.args.out.now c.pass_vote.new.out lb c.args.learned.now c.args.learned.now c.in_ok-decided.decided
    is.id (c.own_mask.ensures ring link is)
    (c.in_ok-vote.ensures ∙ ap (λ (x : Campaign). vote_of x.ballot c.args.offer.range) c.self.view_is)
    (c.in_ok-recorded.ensures ∙ ap (λ (x : Campaign). vote_of x.ballot c.args.offer.range) c.self.view_is)
    (c.in_ok-count.ensures.counted ring (c.len.ensures ∙ ap (λ (nodes : List NodeId). length nodes) is.acceptors)) behind
    c.in_ok-push.ensures.ok (c.in_ok-decided.ensures.frames ring link effects.part is) (c.in_ok-decided.ensures.decided ring link effects.part is)
    (sym (append-nil c.args.learned.now) ∙ ap (λ (b : Bool). c.args.learned.now ++ where_decided b c.args.offer.range) (sym c.if-not-decided.true))

pub returns-clause-made : goal.returns-clause-made
returns-clause-made c = on_ok c.push-2.result c.push-2.ensures.ok (λ pushed ring link effects cb fb lb is behind.
    one_offered ring link c.args.self.now c.args.offer.range c.args.offer.taken effects c.count.new.self c.args.view.now.ring c.own_mask.result c.in_ok-vote.vote c.in_ok-recorded.recorded cb c.args.changes.now c.push.new.self fb c.args.out.now c.pass_vote.new.out lb c.args.learned.now c.push-2.new.self c.in_ok-decided.decided
    is.id (c.own_mask.ensures ring link is)
    (c.in_ok-vote.ensures ∙ ap (λ (x : Campaign). vote_of x.ballot c.args.offer.range) c.self.view_is)
    (c.in_ok-recorded.ensures ∙ ap (λ (x : Campaign). vote_of x.ballot c.args.offer.range) c.self.view_is)
    (c.in_ok-count.ensures.counted ring (c.len.ensures ∙ ap (λ (nodes : List NodeId). length nodes) is.acceptors)) behind
    c.in_ok-push.ensures.ok (c.in_ok-decided.ensures.frames ring link effects.part is) (c.in_ok-decided.ensures.decided ring link effects.part is)
    (pushed ∙ ap (λ (b : Bool). c.args.learned.now ++ where_decided b c.args.offer.range) (sym c.if-not-decided.false)))
