use Rattle.std.proofs.Common.{◌<◌, ◌∙◌, List, max, length, Option, sym, ap, subst, arith}
use Rattle.std.specs.Prelude.{IfSome}
use Rattle.mrp_types.specs.declared.id.NodeId.{NodeId}
use Rattle.mrp_types.specs.declared.id.TheConstants.{END}
use Rattle.protocol.specs.Learner.{first_gap}
use Rattle.protocol.specs.Proposing.{proposes_after}
use Rattle.coordinator.specs.declared.campaign.Offer.{Offer}
use Rattle.coordinator.specs.Offers.{choice_from}
use Rattle.coordinator.proofs.Offering.{begins, one_more, all_proposed, still_seated, offered_seated}
use Rattle.coordinator.proofs.campaign.Campaign.propose.Goals as goal

pub loop-offer-init : goal.loop-offer-init
loop-offer-init c = record {
  learned = c.advance.ensures.learned;
  unlearned = c.advance.ensures.unlearned;
  going = λ ring link effects cb fb lb is seated trim held made. (
    still_seated ring c.args.window (first_gap (max c.args.self.now.next c.args.trim) c.args.learner.now.held) c.args.self.now c.advance.new.self c.advance.ensures.next seated,
    begins ring link effects c.args.trim c.args.learner.now.held c.args.self.now c.advance.new.self cb c.args.changes.now fb c.args.out.now lb c.args.learned.now trim held made c.advance.ensures.next,
  );
}

pub loop-offer-preserved : goal.loop-offer-preserved
loop-offer-preserved c =
    let past : (c.loop-offer.self.next < c.in-Some.offer.range.hi) × (c.loop-offer.self.next < END) =
    subst (λ (o : Option Offer). IfSome o (λ (x : Offer). (c.loop-offer.self.next < x.range.hi) × (c.loop-offer.self.next < END))) c.in-Some.is c.in_ok-offer.ensures.range in
    let passed = c.in_ok-offer-2.ensures.passed in
    let risen = c.advance-in-Some.ensures.risen in
    record {
      learned = c.advance-in-Some.ensures.learned;
      unlearned = c.advance-in-Some.ensures.unlearned;
      going = λ ring link effects cb fb lb is seated trim held made.
          let so = c.loop-offer.invariant.going ring link effects cb fb lb is seated trim held made in
          let counted = c.in_ok-offer-2.ensures.counted ring (ap (λ (nodes : List NodeId). length nodes) is.acceptors) in (
            still_seated ring c.args.window (first_gap (max c.offer.new.self.next c.args.trim) c.args.learner.now.held) c.offer.new.self c.advance-in-Some.new.self c.advance-in-Some.ensures.next
                (offered_seated ring c.args.window c.in-Some.offer.range c.in-Some.offer.taken c.loop-offer.self c.offer.new.self counted so.0),
            one_more ring link (proposes_after ring link effects) c.args.trim c.args.learner.now.held c.loop-offer.self cb c.loop-offer.changes fb c.loop-offer.out lb c.loop-offer.learned so.1
                c.in-Some.offer.range c.in-Some.offer.taken c.offer.new.self c.advance-in-Some.new.self c.offer.new.changes c.offer.new.out c.offer.new.learned
                (ap (λ (o : Option Offer). choice_from o) (sym c.in-Some.is) ∙ c.in_ok-offer.ensures.chosen ring so.0) past.0 past.1
                (c.in_ok-offer-2.ensures.made ring link so.1.so_far cb fb lb is so.1.behind) counted c.advance-in-Some.ensures.next (omega arith),
          );
    }

pub returns : goal.returns
returns c = λ ring link effects cb fb lb is seated trim held made.
    let so = c.loop-offer.invariant.going ring link effects cb fb lb is seated trim held made in
    all_proposed ring link (proposes_after ring link effects) c.args.trim c.args.learner.now.held c.loop-offer.self cb c.loop-offer.changes fb c.loop-offer.out lb c.loop-offer.learned so.1
    (ap (λ (o : Option Offer). choice_from o) (sym c.in_default.is) ∙ c.in_ok-offer.ensures.chosen ring so.0)
