use Rattle.std.proofs.Common.{◌≡◌, ◌∙◌, Some, None, sym, ap, arith}
use Rattle.protocol.specs.Parts.{Campaign}
use Rattle.gate_log.proofs.Answering.{if_ok}
use Rattle.coordinator.proofs.Choosing.{rests_short, chosen_by, offer_chosen, chosen_passes}
use Rattle.coordinator.proofs.campaign.Campaign.choose.Goals as goal

pub returns-then-covered-self-clause-chosen : goal.returns-then-covered-self-clause-chosen
returns-then-covered-self-clause-chosen c = λ ring seated.
    let next : c.self.inside.next ≡ c.args.self.now.next = ap (λ (x : Campaign). x.next) c.self.view_is in
    let short = c.if-covered-self.true in
    rests_short ring c.args.window c.args.self.now c.args.learner.now.held seated c.covered_to-covered.result c.covered_to-covered.ensures.reached (omega arith)

pub returns-in_default-clause-chosen : goal.returns-in_default-clause-chosen
returns-in_default-clause-chosen c = if_ok c.fresh.result _ _ c.fresh.ensures.chosen (λ offer is ring seated.
    let next : c.self.inside.next ≡ c.args.self.now.next = ap (λ (x : Campaign). x.next) c.self.view_is in
    let under = c.if-covered-self.false in
    is
    ∙ chosen_by ring c.args.window c.args.self.now c.args.learner.now.held seated c.covered_to-covered.result c.covered_to-covered.ensures.reached c.has_room.result None c.has_room.ensures c.if-not-has_room.false (omega arith)
    (sym c.in_default.is ∙ c.in_ok-value.ensures.due))

pub returns-clause-chosen : goal.returns-clause-chosen
returns-clause-chosen c = λ ring seated.
    let next : c.self.inside.next ≡ c.args.self.now.next = ap (λ (x : Campaign). x.next) c.self.view_is in
    let under = c.if-covered-self.false in
    offer_chosen ring c.args.window c.args.self.now c.args.learner.now.held seated c.covered_to-covered.result c.covered_to-covered.ensures.reached c.in-Some.value c.offer_of.result.range c.offer_of.result.taken
    c.offer_of.ensures.value c.offer_of.ensures.begin c.offer_of.ensures.taken c.offer_of.ensures.end
    ∙ chosen_by ring c.args.window c.args.self.now c.args.learner.now.held seated c.covered_to-covered.result c.covered_to-covered.ensures.reached c.has_room.result (Some c.in-Some.value) c.has_room.ensures c.if-not-has_room.false (omega arith)
    (sym c.in-Some.is ∙ c.in_ok-value.ensures.due)

pub returns-clause-range : goal.returns-clause-range
returns-clause-range c =
    let next : c.self.inside.next ≡ c.args.self.now.next = ap (λ (x : Campaign). x.next) c.self.view_is in
    let under = c.if-covered-self.false in
    let within = c.covered_to-covered.ensures.within in
    (chosen_passes c.args.window c.args.self.now c.args.learner.now.held c.offer_of.result.range c.offer_of.result.taken c.in_ok-value.ensures.ordered c.requires.learned c.requires.unlearned (returns-clause-chosen c), omega arith)
