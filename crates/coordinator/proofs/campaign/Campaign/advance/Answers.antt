use Rattle.std.proofs.Common.{◌≡◌, ap, arith}
use Rattle.protocol.specs.Parts.{Campaign}
use Rattle.coordinator.proofs.Advancing.{gap_unlearned, gap_above}
use Rattle.coordinator.proofs.campaign.Campaign.advance.Goals as goal

pub returns-clause-unlearned : goal.returns-clause-unlearned
returns-clause-unlearned c = gap_unlearned c.max.result c.first_gap-self-inside.result c.args.learner.now.held c.first_gap-self-inside.ensures.learned c.first_gap-self-inside.ensures.gap

pub returns-clause-risen : goal.returns-clause-risen
returns-clause-risen c =
    let above = gap_above c.max.result c.first_gap-self-inside.result c.args.learner.now.held c.first_gap-self-inside.ensures.learned c.first_gap-self-inside.ensures.gap in
    let most = c.max.ensures in
    let next : c.self.inside.next ≡ c.args.self.now.next = ap (λ (x : Campaign). x.next) c.self.view_is in
    omega arith
