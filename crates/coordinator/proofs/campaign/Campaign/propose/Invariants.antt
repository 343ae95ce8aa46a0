use Rattle.std.proofs.Common.{◌≡◌, ◌-◌, ◌^◌, List, None}
use Rattle.mrp_types.specs.declared.voted.Decided.{Decided}
use Rattle.range_map.specs.Entries.{value_at}
use Rattle.vote_state.specs.declared.change.Change.{Change}
use Rattle.frames.specs.declared.sent.Sent.{Sent}
use Rattle.ring_link.specs.Silence.{Link}
use Rattle.protocol.specs.Parts.{Ring, Effects}
use Rattle.protocol.specs.Proposing.{proposes_after}
use Rattle.ring_view.specs.Views.{IsViewOf}
use Rattle.ring_learner.specs.Filled.{AreLearned}
use Rattle.coordinator.specs.Offers.{IsSeated, Made}
use Rattle.coordinator.proofs.Offering.{Goes}
use Rattle.coordinator.proofs.campaign.Campaign.propose.Given as goal

-- where all proposing leads is where the proposing to come leads
abbrev pub invariant-loop-offer : goal.invariant-loop-offer
invariant-loop-offer l = record {
  learned : AreLearned l.learner.held;
  unlearned : value_at l.self.next l.learner.held ≡ None;
  going : (ring : Ring) (link : Link) (effects : Effects) (cb : List Change) (fb : List Sent) (lb : List Decided) → IsViewOf l.view ring link → IsSeated ring l.window l.fn.self → effects.part.kept.trim ≡ l.trim
      → effects.part.learner.held ≡ l.learner.held → Made effects l.fn.self cb l.fn.changes fb l.fn.out lb l.fn.learned
      → IsSeated ring l.window l.self × Goes ring link (proposes_after ring link effects) l.trim l.learner.held l.self cb l.changes fb l.out lb l.learned;
}

abbrev pub decreases-loop-offer : goal.decreases-loop-offer
decreases-loop-offer l = 2 ^ 64 - l.self.next
