-- Each row keeps the seats.
use Rattle.std.proofs.Common.{◌≡◌, ℕ, zero, suc, true, false, Bool, List, [], ◌∷◌, length, map, refl, sym, ◌∙◌, ap, subst}
use Rattle.std.specs.Prelude.{◌==◌, ◌&&◌, Option, Some, None, nat_lt, slice_index, if◌then◌else◌}
use Rattle.std.proofs.Math.ListN.{length-set}
use Rattle.mrp_types.specs.declared.id.NodeId.{NodeId}
use Rattle.mrp_types.specs.declared.id.TheConstants.{END}
use Rattle.mrp_types.specs.declared.value.Entry.{Entry}
use Rattle.mrp_types.specs.declared.value.Value.{Value}
use Rattle.ring_link.specs.Silence.{Link}
use Rattle.skip_leveller.specs.Levelling.{answer_of}
use Rattle.protocol.specs.Parts.{Ring, Campaign, Role, Idle, Active, Part, Effects}
use Rattle.protocol.specs.Rings.{position_of}
use Rattle.protocol.specs.Effects.{no_effects, with_campaign, with_part, with_frames}
use Rattle.protocol.specs.Learner.{role_without, role_unfinished}
use Rattle.protocol.specs.Acceptor.{idle_below}
use Rattle.protocol.specs.Ballots.{Page, with_page, asks_more, counts, campaigns, reported, reported_at, leads_now}
use Rattle.protocol.specs.Coordinator.{role_refused, refused}
use Rattle.protocol.specs.Proposing.{Choice, Rests, Offers, Turn, Stops, Proposes, choice, advanced, turn_by, turn_of, turn_in, offers, proposing, proposes_after, has_room}
use Rattle.protocol.specs.Leading.{with_tick_taken, shortfall_from, levels_by, levels_in, levels}
use Rattle.coordinator.specs.Standing.{HasSeats}
use Rattle.coordinator.proofs.Offering.{offers_part}

all_seated : (own : NodeId → Bool) (next : ℕ) (nodes : List NodeId) → length (map (λ (node : NodeId). if own node then END else next) nodes) ≡ length nodes
all_seated own next [] = refl
all_seated own next (node ∷ nodes) = ap (λ (n : ℕ). suc n) (all_seated own next nodes)

pub start_seats : (ring : Ring) (ballot : ℕ) (effects : Effects) → HasSeats ring (campaigns ring ballot effects).part.coordinator.role
start_seats ring ballot effects = all_seated (λ (node : NodeId). node.0 == ring.own.0) effects.part.kept.trim ring.acceptors

module _ (ring : Ring) where
  pub promise_seats : (part : Part) (from : NodeId) (page : Page) → HasSeats ring part.coordinator.role → HasSeats ring (reported ring from page (no_effects part)).part.coordinator.role
  promise_seats part from page seats = by part.coordinator.role (position_of ring from) seats seats
    where
      by_count : (campaign : Campaign) (position : ℕ) (b : Bool) → length campaign.covered ≡ length ring.acceptors → HasSeats ring part.coordinator.role
          → HasSeats ring
          (if b then with_frames (asks_more ring from page) (with_part (with_campaign (with_page position (slice_index campaign.covered position) page campaign) part) (no_effects part)) else no_effects part).part.coordinator.role
      by_count campaign position true own all = length-set campaign.covered position page.hi ∙ own
      by_count campaign position false own all = all

      by : (role : Role) (position : Option ℕ) → HasSeats ring role → HasSeats ring part.coordinator.role → HasSeats ring (reported_at ring from page role position (no_effects part)).part.coordinator.role
      by Idle position own all = all
      by (Active campaign) None own all = all
      by (Active campaign) (Some position) own all = by_count campaign position (counts page campaign.ballot (slice_index campaign.covered position)) own all

  pub refuse_seats : (part : Part) (ballot promise : ℕ) → HasSeats ring part.coordinator.role → HasSeats ring (refused ring part ballot promise).part.coordinator.role
  unfolding refused
  refuse_seats part ballot promise seats = by part.coordinator.role seats
    where
      by_ballot : (campaign : Campaign) (b : Bool) → length campaign.covered ≡ length ring.acceptors → HasSeats ring (if b then Idle else Active campaign)
      by_ballot campaign true own = tt
      by_ballot campaign false own = own

      by : (role : Role) → HasSeats ring role → HasSeats ring (role_refused ballot role)
      by Idle own = tt
      by (Active campaign) own = by_ballot campaign (campaign.ballot == ballot) own

  pub own_seats : (promise : ℕ) (role : Role) → HasSeats ring role → HasSeats ring (idle_below promise role)
  own_seats promise Idle own = tt
  own_seats promise (Active campaign) own = by (nat_lt campaign.ballot promise)
    where
      by : (b : Bool) → HasSeats ring (if b then Idle else Active campaign)
      by true = tt
      by false = own

  pub learned_seats : (entries : List Entry) (role : Role) → HasSeats ring role → HasSeats ring (role_without entries role)
  learned_seats entries Idle own = tt
  learned_seats entries (Active campaign) own = own

  pub finished_seats : (trim : ℕ) (held : List (ℕ × Value)) (role : Role) → HasSeats ring role → HasSeats ring (role_unfinished trim held role)
  finished_seats trim held Idle own = tt
  finished_seats trim held (Active campaign) own = own

  module _ (link : Link) where
    abbrev TurnSeats : Turn → Type 0
    TurnSeats (Stops effects) = HasSeats ring effects.part.coordinator.role
    TurnSeats (Proposes campaign range taken effects) = (length campaign.covered ≡ length ring.acceptors) × HasSeats ring effects.part.coordinator.role

    turn_seats : (effects : Effects) → HasSeats ring effects.part.coordinator.role → TurnSeats (turn_of ring effects)
    turn_seats effects seats = by effects.part.coordinator.role seats seats
      where
        by_choice : (campaign : Campaign) (c : Choice) → length campaign.covered ≡ length ring.acceptors → HasSeats ring effects.part.coordinator.role → TurnSeats (turn_by effects campaign c)
        by_choice campaign Rests own all = own
        by_choice campaign (Offers range taken) own all = (own, all)

        by : (role : Role) → HasSeats ring role → HasSeats ring effects.part.coordinator.role → TurnSeats (turn_in ring effects role)
        by Idle own all = all
        by (Active campaign) own all = by_choice (advanced effects.part campaign) (choice ring (advanced effects.part campaign) effects.part.learner.held) own all

    pub many_seats : (n : ℕ) (turn : Turn) → TurnSeats turn → HasSeats ring (proposing n ring link turn).part.coordinator.role
    unfolding proposing
    many_seats zero (Stops effects) seats = seats
    many_seats zero (Proposes campaign range taken effects) seats = seats.1
    many_seats (suc n) (Stops effects) seats = seats
    many_seats (suc n) (Proposes campaign range taken effects) seats =
        many_seats n (turn_of ring (offers ring link campaign range taken effects))
        (turn_seats (offers ring link campaign range taken effects) (subst (λ (p : Part). HasSeats ring p.coordinator.role) (sym (offers_part ring link campaign range taken effects)) seats.0))

    pub after_seats : (effects : Effects) → HasSeats ring effects.part.coordinator.role → HasSeats ring (proposes_after ring link effects).part.coordinator.role
    unfolding proposes_after
    after_seats effects seats = many_seats END (turn_of ring effects) (turn_seats effects seats)

    pub level_seats : (part : Part) → HasSeats ring part.coordinator.role → HasSeats ring (levels ring link part).part.coordinator.role
    unfolding levels
    level_seats part seats = by part.coordinator.role seats seats
      where
        by_room : (campaign : Campaign) (missing : ℕ) (b : Bool) → length campaign.covered ≡ length ring.acceptors
            → HasSeats ring
            (if b then proposes_after ring link (offers ring link campaign (shortfall_from campaign.next missing) 0 (no_effects part)) else no_effects (with_campaign campaign part)).part.coordinator.role
        by_room campaign missing true own =
            after_seats (offers ring link campaign (shortfall_from campaign.next missing) 0 (no_effects part))
            (subst (λ (p : Part). HasSeats ring p.coordinator.role) (sym (offers_part ring link campaign (shortfall_from campaign.next missing) 0 (no_effects part))) own)
        by_room campaign missing false own = own

        by_answer : (campaign : Campaign) (answer : Option ℕ) → length campaign.covered ≡ length ring.acceptors → HasSeats ring (levels_by ring link part campaign answer).part.coordinator.role
        by_answer campaign None own = own
        by_answer campaign (Some missing) own = by_room campaign missing (has_room ring campaign && nat_lt campaign.next END) own

        by_lead : (campaign : Campaign) (b : Bool) → length campaign.covered ≡ length ring.acceptors → HasSeats ring part.coordinator.role
            → HasSeats ring (if b then levels_by ring link part (with_tick_taken campaign) (answer_of campaign.leveller) else no_effects part).part.coordinator.role
        by_lead campaign true own all = by_answer (with_tick_taken campaign) (answer_of campaign.leveller) own
        by_lead campaign false own all = all

        by : (role : Role) → HasSeats ring role → HasSeats ring part.coordinator.role → HasSeats ring (levels_in ring link part role).part.coordinator.role
        by Idle own all = all
        by (Active campaign) own all = by_lead campaign (leads_now ring campaign) own all
