-- What a row's part keeps is what its changes make of what was kept.
use Rattle.std.proofs.Common.{◌≡◌, ℕ, zero, suc, true, false, Bool, List, [], ◌∷◌, ◌++◌, refl, sym, ◌∙◌, ap}
use Rattle.std.specs.Prelude.{◌==◌, ◌&&◌, not, Option, Some, None, nat_lt, nat_le, nat_eq, count_ones, slice_index, if◌then◌else◌}
use Rattle.mrp_types.specs.declared.id.NodeId.{NodeId}
use Rattle.mrp_types.specs.declared.id.TheConstants.{END}
use Rattle.mrp_types.specs.declared.id.RingId.{RingId}
use Rattle.mrp_types.specs.declared.value.Value.{Value}
use Rattle.mrp_types.specs.declared.voted.Voted.{Voted}
use Rattle.mrp_types.specs.declared.voted.Decided.{Decided}
use Rattle.mrp_types.specs.declared.members.RingView.{RingView}
use Rattle.range_map.proofs.EntryLemmas.{eq-true}
use Rattle.vote_state.specs.declared.ring.RingState.{RingState}
use Rattle.vote_state.specs.declared.change.Change.{Change}
use Rattle.vote_state.specs.declared.change.Change.TheVariants.{Promise, Vote, Trim}
use Rattle.vote_state.specs.Ranges.{are_held}
use Rattle.vote_state.specs.State.{State, ring_at, with_promise, with_vote, with_trim}
use Rattle.frames.specs.declared.body.Body.TheVariants.{Accept}
use Rattle.ring_link.specs.Silence.{Link}
use Rattle.skip_leveller.specs.Levelling.{answer_of}
use Rattle.ring_kept.specs.Kept.{kept_by, kept_after}
use Rattle.protocol.specs.Parts.{Ring, Campaign, Role, Idle, Active, Part, Effects}
use Rattle.protocol.specs.Rings.{position_of, owner_of, is_node, majority_of, has_bit, with_bit, next_acceptor, sends}
use Rattle.protocol.specs.Effects.{no_effects, with_kept, with_campaign, with_part, with_frames, with_change}
use Rattle.protocol.specs.Learner.{decided_of, without_finished}
use Rattle.protocol.specs.Acceptor.{promises, votes_for, promises_anew, votes_anew, trims_to, refuses, tells_trim, tells_promise, prepares, decides, decides_or_forwards, accepts_at, accepts}
use Rattle.protocol.specs.Ballots.{Page, with_page, asks_more, counts, reported, reported_at, leads_now}
use Rattle.protocol.specs.Coordinator.{refused}
use Rattle.protocol.specs.Proposing.{Choice, Rests, Offers, Turn, Stops, Proposes, choice, advanced, own_mask, after_offer, vote_of, turn_by, turn_of, turn_in, offers, proposing, proposes_after, has_room}
use Rattle.protocol.specs.Leading.{with_tick_taken, shortfall_from, levels_by, levels_in, levels}
use Rattle.ring_view.specs.Views.{Shows}
use Rattle.role_laws.specs.Kept.{Records}

kept_append : (ring : RingId) (xs ys : List Change) (kept : RingState) → kept_after ring (xs ++ ys) kept ≡ kept_after ring ys (kept_after ring xs kept)
kept_append ring [] ys kept = refl
kept_append ring (x ∷ xs) ys kept = kept_append ring xs ys (kept_by ring x kept)

pub still_shown : (view : RingView) (durable : State) (changes : List Change) (ring : Ring) (link : Link) (part : Part) (effects : Effects) → Shows view durable changes ring link part → Records ring part effects
    → Shows view durable (changes ++ effects.changes) ring link effects.part
still_shown view durable changes ring link part effects shows records = record {
  is_view = shows.is_view;
  kept = records ∙ ap (λ (kept : RingState). kept_after ring.id effects.changes kept) shows.kept ∙ sym (kept_append ring.id changes effects.changes (ring_at durable ring.id));
}

module _ (ring : Ring) (part : Part) where
  -- one more change of the ring
  one_more : (effects : Effects) (change : Change) (f : RingState → RingState) → ((kept : RingState) → kept_by ring.id change kept ≡ (if nat_eq ring.id.0 ring.id.0 then f kept else kept)) → Records ring part effects
      → f effects.part.kept ≡ kept_after ring.id (effects.changes ++ change ∷ []) part.kept
  one_more effects change f is records =
      ap f records
      ∙ sym (kept_append ring.id effects.changes (change ∷ []) part.kept ∙ is (kept_after ring.id effects.changes part.kept)
      ∙ ap (λ (b : Bool). if b then f (kept_after ring.id effects.changes part.kept) else kept_after ring.id effects.changes part.kept) (eq-true ring.id.0 ring.id.0 refl))

  promised_more : (ballot : ℕ) (effects : Effects) → Records ring part effects → Records ring part (promises ring ballot effects)
  promised_more ballot effects records = one_more effects (Promise ring.id ballot) (λ (kept : RingState). with_promise ballot kept) (λ kept. refl) records

  voted_more : (vote : Voted) (effects : Effects) → Records ring part effects → Records ring part (votes_for ring vote effects)
  voted_more vote effects records = one_more effects (Vote ring.id vote) (λ (kept : RingState). with_vote vote kept) (λ kept. refl) records

  onward : (link : Link) (mask : ℕ) (vote : Voted) (effects : Effects) → Records ring part effects → Records ring part (decides_or_forwards ring link mask vote effects)
  onward link mask vote effects records = by (nat_le (majority_of ring) (count_ones mask))
    where
      by : (b : Bool)
          → Records ring part (if b then decides ring link (decided_of vote) effects else with_frames (sends ring (next_acceptor ring link) (Accept ring.id vote.ballot vote.lo vote.hi mask vote.value)) effects)
      by true = records
      by false = records

  -- ---- the acceptor

  pub prepare_records : (from : NodeId) (ballot lo : ℕ) → Records ring part (prepares ring part from ballot lo)
  unfolding prepares
  prepare_records from ballot lo = by (not (is_node from (owner_of ring ballot))) (nat_lt ballot part.kept.promise)
    where
      by : (a b : Bool)
          → Records ring part (if a then no_effects part else if b then refuses ring (Some from) ballot part else tells_promise ring from ballot lo (promises ring ballot (no_effects part)))
      by true b = refl
      by false true = refl
      by false false = promised_more ballot (no_effects part) refl

  pub trim_records : (trim : ℕ) → Records ring part (trims_to ring trim (no_effects part))
  trim_records trim = by (nat_le trim part.kept.trim)
    where
      by : (b : Bool)
          → Records ring part (if b then no_effects part else with_change (Trim ring.id trim) (without_finished (with_kept (with_trim trim part.kept) part)) (no_effects part))
      by true = refl
      by false = one_more (no_effects part) (Trim ring.id trim) (λ (kept : RingState). with_trim trim kept) (λ kept. refl) refl

  promised_anew : (ballot : ℕ) (effects : Effects) → Records ring part effects → Records ring part (promises_anew ring ballot effects)
  promised_anew ballot effects records = by (ballot == effects.part.kept.promise)
    where
      by : (b : Bool) → Records ring part (if b then effects else promises ring ballot effects)
      by true = records
      by false = promised_more ballot effects records

  voted_anew : (vote : Voted) (effects : Effects) → Records ring part effects → Records ring part (votes_anew ring vote effects)
  voted_anew vote effects records = by (are_held vote effects.part.kept.votes)
    where
      by : (b : Bool) → Records ring part (if b then effects else votes_for ring vote effects)
      by true = records
      by false = voted_more vote effects records

  pub accept_records : (link : Link) (ballot lo hi mask : ℕ) (value : Value) → Records ring part (accepts ring link part ballot lo hi mask value)
  unfolding accepts
  accept_records link ballot lo hi mask value = by_seat (position_of ring ring.own)
    where
      by : (vote : Voted) (position : ℕ) (a b c : Bool)
          → Records ring part (if a then refuses ring (owner_of ring vote.ballot) vote.ballot part
          else if b then tells_trim ring (owner_of ring vote.ballot) part
          else if c then no_effects part
          else decides_or_forwards ring link (with_bit mask position) vote (votes_anew ring vote (promises_anew ring vote.ballot (no_effects part))))
      by vote position true b c = refl
      by vote position false true c = refl
      by vote position false false true = refl
      by vote position false false false =
          onward link (with_bit mask position) vote (votes_anew ring vote (promises_anew ring vote.ballot (no_effects part)))
          (voted_anew vote (promises_anew ring vote.ballot (no_effects part)) (promised_anew vote.ballot (no_effects part) refl))

      by_seat : (position : Option ℕ) → Records ring part (accepts_at ring link part mask (let vote : Voted = record { lo = lo; hi = hi; ballot = ballot; value = value } in vote) position)
      by_seat None = refl
      by_seat (Some position) = by (record { lo = lo; hi = hi; ballot = ballot; value = value }) position (nat_lt ballot part.kept.promise) (nat_lt lo part.kept.trim) (has_bit mask position)

  -- ---- the coordinator

  pub start_records : (ballot : ℕ) → Records ring part (promises ring ballot (no_effects part))
  start_records ballot = promised_more ballot (no_effects part) refl

  pub promise_records : (from : NodeId) (page : Page) → Records ring part (reported ring from page (no_effects part))
  promise_records from page = by part.coordinator.role (position_of ring from)
    where
      by_count : (campaign : Campaign) (position : ℕ) (b : Bool)
          → Records ring part
          (if b then with_frames (asks_more ring from page) (with_part (with_campaign (with_page position (slice_index campaign.covered position) page campaign) part) (no_effects part)) else no_effects part)
      by_count campaign position true = refl
      by_count campaign position false = refl

      by : (role : Role) (position : Option ℕ) → Records ring part (reported_at ring from page role position (no_effects part))
      by Idle position = refl
      by (Active campaign) None = refl
      by (Active campaign) (Some position) = by_count campaign position (counts page campaign.ballot (slice_index campaign.covered position))

  pub refuse_records : (ballot promise : ℕ) → Records ring part (refused ring part ballot promise)
  unfolding refused
  refuse_records ballot promise = refl

  module _ (link : Link) where
    offer_records : (campaign : Campaign) (range : Decided) (taken : ℕ) (effects : Effects) → Records ring part effects → Records ring part (offers ring link campaign range taken effects)
    unfolding offers
    offer_records campaign range taken effects records =
        onward link (own_mask ring) (vote_of campaign.ballot range) (votes_for ring (vote_of campaign.ballot range) (with_part (with_campaign (after_offer ring range taken campaign) effects.part) effects))
        (voted_more (vote_of campaign.ballot range) (with_part (with_campaign (after_offer ring range taken campaign) effects.part) effects) records)

    abbrev TurnRecords : Turn → Type 0
    TurnRecords (Stops effects) = Records ring part effects
    TurnRecords (Proposes campaign range taken effects) = Records ring part effects

    turn_records : (effects : Effects) → Records ring part effects → TurnRecords (turn_of ring effects)
    turn_records effects records = by effects.part.coordinator.role
      where
        by_choice : (campaign : Campaign) (c : Choice) → TurnRecords (turn_by effects campaign c)
        by_choice campaign Rests = records
        by_choice campaign (Offers range taken) = records

        by : (role : Role) → TurnRecords (turn_in ring effects role)
        by Idle = records
        by (Active campaign) = by_choice (advanced effects.part campaign) (choice ring (advanced effects.part campaign) effects.part.learner.held)

    many_records : (n : ℕ) (turn : Turn) → TurnRecords turn → Records ring part (proposing n ring link turn)
    unfolding proposing
    many_records zero (Stops effects) records = records
    many_records zero (Proposes campaign range taken effects) records = records
    many_records (suc n) (Stops effects) records = records
    many_records (suc n) (Proposes campaign range taken effects) records =
        many_records n (turn_of ring (offers ring link campaign range taken effects)) (turn_records (offers ring link campaign range taken effects) (offer_records campaign range taken effects records))

    pub after_records : (effects : Effects) → Records ring part effects → Records ring part (proposes_after ring link effects)
    unfolding proposes_after
    after_records effects records = many_records END (turn_of ring effects) (turn_records effects records)

    pub level_records : Records ring part (levels ring link part)
    unfolding levels
    level_records = by part.coordinator.role
      where
        by_room : (campaign : Campaign) (missing : ℕ) (b : Bool)
            → Records ring part
            (if b then proposes_after ring link (offers ring link campaign (shortfall_from campaign.next missing) 0 (no_effects part)) else no_effects (with_campaign campaign part))
        by_room campaign missing true =
            after_records (offers ring link campaign (shortfall_from campaign.next missing) 0 (no_effects part)) (offer_records campaign (shortfall_from campaign.next missing) 0 (no_effects part) refl)
        by_room campaign missing false = refl

        by_answer : (campaign : Campaign) (answer : Option ℕ) → Records ring part (levels_by ring link part campaign answer)
        by_answer campaign None = refl
        by_answer campaign (Some missing) = by_room campaign missing (has_room ring campaign && nat_lt campaign.next END)

        by_lead : (campaign : Campaign) (b : Bool) → Records ring part (if b then levels_by ring link part (with_tick_taken campaign) (answer_of campaign.leveller) else no_effects part)
        by_lead campaign true = by_answer (with_tick_taken campaign) (answer_of campaign.leveller)
        by_lead campaign false = refl

        by : (role : Role) → Records ring part (levels_in ring link part role)
        by Idle = refl
        by (Active campaign) = by_lead campaign (leads_now ring campaign)
