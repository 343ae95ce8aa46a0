-- The words of a rule, and proposing: what they record may stand in a record.
use Rattle.std.proofs.Common.{◌≡◌, inl, inr, ℕ, zero, suc, ◌-◌, ◌<◌, max, Bool, true, false, ◌||◌, List, [], ◌∷◌, ◌++◌, length, Option, Some, None, refl}
use Rattle.std.specs.Prelude.{◌==◌, nat_lt, nat_le, if◌then◌else◌, count_ones}
use Rattle.std.specs.List.{AllByRecursion}
use Rattle.std.proofs.lemmas.Bool.{cases_lt}
use Rattle.mrp_types.specs.declared.id.NodeId.{NodeId}
use Rattle.mrp_types.specs.declared.id.TheConstants.{END}
use Rattle.mrp_types.specs.declared.id.Party.TheVariants.{Node}
use Rattle.mrp_types.specs.declared.value.Value.{Value}
use Rattle.mrp_types.specs.declared.voted.Voted.{Voted}
use Rattle.mrp_types.specs.declared.voted.Decided.{Decided}
use Rattle.step_valid.specs.Valid.{MayVote, MayLearn, BodyValid, SentValid, CampaignValid, RoleValid, PartValid, EffectsValid}
use Rattle.step_valid.proofs.Batches.{proposed_entries}
use Rattle.step_valid.proofs.Listed.{decided_may}
use Rattle.step_valid.proofs.Choosing.{choice_may}
use Rattle.vote_state.specs.declared.ring.RingState.{RingState}
use Rattle.vote_state.specs.declared.change.Change.TheVariants as change
use Rattle.vote_state.specs.Ranges.{are_held}
use Rattle.vote_state.specs.State.{with_vote, with_trim}
use Rattle.vote_state.specs.Valid.{IsRing, IsBallot, IsInst, IsVoted, IsChange}
use Rattle.vote_state.proofs.StateLemmas.{filter_all, append_all, vote_kept, trim_is_kept, promise_is_kept}
use Rattle.ring_link.specs.Silence.{Link}
use Rattle.frames.specs.declared.body.Body.{Body}
use Rattle.frames.specs.declared.body.Body.TheVariants as body
use Rattle.frames.specs.declared.sent.Sent.{Sent}
use Rattle.protocol.specs.Parts.{Ring, Campaign, Role, Idle, Active, Part, Effects}
use Rattle.protocol.specs.Rings.{majority_of, next_acceptor, next_member, is_beyond, sends, sends_each}
use Rattle.protocol.specs.Effects.{no_effects, with_learned, with_part, with_change, with_frames, with_kept, with_campaign}
use Rattle.protocol.specs.Learner.{decided_of, role_unfinished, without_finished}
use Rattle.protocol.specs.Acceptor.{idle_below, promised_part, promises, votes_for, promises_anew, votes_anew, trims_to, first_decide, decides, decides_or_forwards}
use Rattle.protocol.proofs.EntryLemmas.{gap}
use Rattle.protocol.specs.Proposing.{Choice, Rests, Offers, choice, advanced, own_mask, with_outstanding, after_offer, vote_of, offers, Turn, Stops, Proposes, turn_by, turn_in, turn_of, proposing, proposes_after}
use Rattle.vote_state.proofs.HeldLemmas.{not_held_not_empty}

-- ---- words

module _ (ring : Ring) (numbered : IsRing ring.id) where
  pub valid_sends : (to : Option NodeId) (b : Body) → BodyValid b → AllByRecursion SentValid (sends ring to b)
  valid_sends None b v = tt
  valid_sends (Some to) b v = go (to.0 == ring.own.0 || is_beyond b)
    where
      go : (t : Bool) → AllByRecursion SentValid (if t then [] else (record { to = Node to; frame = record { from = Node ring.own; body = b } }) ∷ [])
      go true = tt
      go false = (v, tt)

  pub valid_each : (nodes : List NodeId) (b : Body) → BodyValid b → AllByRecursion SentValid (sends_each ring nodes b)
  valid_each [] b v = tt
  valid_each (node ∷ nodes) b v = append_all SentValid (sends ring (Some node) b) (sends_each ring nodes b) (valid_sends (Some node) b v) (valid_each nodes b v)

  pub valid_none : (part : Part) → PartValid part → EffectsValid (no_effects part)
  valid_none part p = record { part = p; changes = tt; frames = tt; learned = tt; lines = tt }

  pub valid_frames : (effects : Effects) (frames : List Sent) → AllByRecursion SentValid frames → EffectsValid effects → EffectsValid (with_frames frames effects)
  valid_frames effects frames v d = record { part = d.part; changes = d.changes; frames = append_all SentValid effects.frames frames d.frames v; learned = d.learned; lines = d.lines }

  pub valid_sent : (effects : Effects) (to : Option NodeId) (b : Body) → BodyValid b → EffectsValid effects → EffectsValid (with_frames (sends ring to b) effects)
  valid_sent effects to b v d = valid_frames effects (sends ring to b) (valid_sends to b v) d

  pub valid_learned : (effects : Effects) (range : Decided) → MayLearn range → EffectsValid effects → EffectsValid (with_learned range effects)
  valid_learned effects range may d = record { part = d.part; changes = d.changes; frames = d.frames; learned = append_all MayLearn effects.learned (range ∷ []) d.learned (may, tt); lines = d.lines }

  pub idle_valid : (ballot : ℕ) (role : Role) → RoleValid role → RoleValid (idle_below ballot role)
  idle_valid ballot Idle r = tt
  idle_valid ballot (Active campaign) r = go (nat_lt campaign.ballot ballot)
    where
      go : (b : Bool) → RoleValid (if b then Idle else Active campaign)
      go true = tt
      go false = r

  pub valid_promises : (effects : Effects) (ballot : ℕ) → IsBallot ballot → EffectsValid effects → EffectsValid (promises ring ballot effects)
  valid_promises effects ballot is d = record {
    part = record { kept = promise_is_kept ballot effects.part.kept is d.part.kept; role = idle_valid ballot effects.part.coordinator.role d.part.role; round = d.part.round; held = d.part.held; ordered = d.part.ordered };
    changes = append_all IsChange effects.changes (change.Promise ring.id ballot ∷ []) d.changes ((numbered, is), tt);
    frames = d.frames;
    learned = d.learned;
    lines = d.lines;
  }

  pub valid_promises_anew : (effects : Effects) (ballot : ℕ) → IsBallot ballot → EffectsValid effects → EffectsValid (promises_anew ring ballot effects)
  valid_promises_anew effects ballot is d = go (ballot == effects.part.kept.promise)
    where
      go : (b : Bool) → EffectsValid (if b then effects else promises ring ballot effects)
      go true = d
      go false = valid_promises effects ballot is d

  pub valid_votes : (effects : Effects) (vote : Voted) → IsVoted vote → EffectsValid effects → EffectsValid (votes_for ring vote effects)
  valid_votes effects vote v d = record {
    part = record { kept = vote_kept vote effects.part.kept v d.part.kept; role = d.part.role; round = d.part.round; held = d.part.held; ordered = d.part.ordered };
    changes = append_all IsChange effects.changes (change.Vote ring.id vote ∷ []) d.changes ((numbered, v), tt);
    frames = d.frames;
    learned = d.learned;
    lines = d.lines;
  }

  pub valid_votes_anew : (effects : Effects) (vote : Voted) → MayVote vote → EffectsValid effects → EffectsValid (votes_anew ring vote effects)
  valid_votes_anew effects vote may d = go (are_held vote effects.part.kept.votes) refl
    where
      go : (b : Bool) → are_held vote effects.part.kept.votes ≡ b → EffectsValid (if b then effects else votes_for ring vote effects)
      go true e = d
      go false e = valid_votes effects vote (may (not_held_not_empty vote effects.part.kept.votes e)) d

  pub unfinished_valid : (trim : ℕ) (held : List (ℕ × Value)) (role : Role) → RoleValid role → RoleValid (role_unfinished trim held role)
  unfinished_valid trim held Idle r = tt
  unfinished_valid trim held (Active campaign) r = record {
    ballot = r.ballot;
    reports = r.reports;
    ordered = r.ordered;
    pending = r.pending;
    outstanding = filter_all (λ (range : Decided). MayVote (vote_of campaign.ballot range)) _ campaign.outstanding r.outstanding;
    covered = r.covered;
  }

  pub valid_trims : (effects : Effects) (trim : ℕ) → IsInst trim → EffectsValid effects → EffectsValid (trims_to ring trim effects)
  valid_trims effects trim is d = go (nat_le trim effects.part.kept.trim)
    where
      go : (b : Bool) → EffectsValid (if b then effects else with_change (change.Trim ring.id trim) (without_finished (with_kept (with_trim trim effects.part.kept) effects.part)) effects)
      go true = d
      go false = record {
        part = record { kept = trim_is_kept trim effects.part.kept is d.part.kept; role = unfinished_valid trim effects.part.learner.held effects.part.coordinator.role d.part.role; round = d.part.round; held = d.part.held; ordered = d.part.ordered };
        changes = append_all IsChange effects.changes (change.Trim ring.id trim ∷ []) d.changes ((numbered, is), tt);
        frames = d.frames;
        learned = d.learned;
        lines = d.lines;
      }

  pub valid_decides_or_forwards : (effects : Effects) (link : Link) (mask : ℕ) (vote : Voted) → IsBallot vote.ballot → MayVote vote → EffectsValid effects → EffectsValid (decides_or_forwards ring link mask vote effects)
  valid_decides_or_forwards effects link mask vote is may d = go (nat_le (majority_of ring) (count_ones mask))
    where
      first : (b : Bool) → AllByRecursion SentValid (if b then sends ring (next_member ring link) (body.Decide ring.id vote.lo vote.hi (length ring.members - 2) vote.value) else [])
      first true = valid_sends (next_member ring link) (body.Decide ring.id vote.lo vote.hi (length ring.members - 2) vote.value) (decided_may vote may)
      first false = tt

      go : (b : Bool) → EffectsValid (if b then decides ring link (decided_of vote) effects
          else with_frames (sends ring (next_acceptor ring link) (body.Accept ring.id vote.ballot vote.lo vote.hi mask vote.value)) effects)
      go true =
          valid_learned (with_frames (first_decide ring link (decided_of vote)) effects) (decided_of vote) (decided_may vote may)
          (valid_frames effects (first_decide ring link (decided_of vote)) (first (nat_le 2 (length ring.members))) d)
      go false = valid_sent effects (next_acceptor ring link) (body.Accept ring.id vote.ballot vote.lo vote.hi mask vote.value) (is, may) d

  -- ---- proposing

  pub outstanding_valid : (campaign : Campaign) (range : Decided) → MayVote (vote_of campaign.ballot range) → CampaignValid campaign
      → AllByRecursion (λ (r : Decided). MayVote (vote_of campaign.ballot r)) (with_outstanding ring range campaign.outstanding)
  outstanding_valid campaign range may c = go (nat_le (length ring.acceptors) 1)
    where
      go : (b : Bool) → AllByRecursion (λ (r : Decided). MayVote (vote_of campaign.ballot r)) (if b then campaign.outstanding else campaign.outstanding ++ range ∷ [])
      go true = c.outstanding
      go false = append_all (λ (r : Decided). MayVote (vote_of campaign.ballot r)) campaign.outstanding (range ∷ []) c.outstanding (may, tt)

  pub valid_offers : (effects : Effects) (link : Link) (campaign : Campaign) (range : Decided) (taken : ℕ) → IsVoted (vote_of campaign.ballot range) → CampaignValid campaign → EffectsValid effects
      → EffectsValid (offers ring link campaign range taken effects)
  unfolding offers
  valid_offers effects link campaign range taken may c d =
      let begun : Effects = with_part (with_campaign (after_offer ring range taken campaign) effects.part) effects in
      valid_decides_or_forwards (votes_for ring (vote_of campaign.ballot range) begun) link (own_mask ring) (vote_of campaign.ballot range) c.ballot (λ lt. may)
      (valid_votes begun (vote_of campaign.ballot range) may
      (record {
        part = record {
          kept = d.part.kept;
          role = record {
            ballot = c.ballot;
            reports = c.reports;
            ordered = c.ordered;
            pending = proposed_entries taken campaign.pending c.pending;
            outstanding = outstanding_valid campaign range (λ lt. may) c;
            covered = c.covered;
          };
          round = d.part.round;
          held = d.part.held;
          ordered = d.part.ordered;
        };
        changes = d.changes;
        frames = d.frames;
        learned = d.learned;
        lines = d.lines;
      }))

  pub record MayPropose (campaign : Campaign) (range : Decided) (effects : Effects) : Type 0 where
    pub may : IsVoted (vote_of campaign.ballot range)
    pub campaign_valid : CampaignValid campaign
    pub effects_valid : EffectsValid effects

  abbrev TurnValid : Turn → Type 0
  TurnValid (Stops effects) = EffectsValid effects
  TurnValid (Proposes campaign range taken effects) = MayPropose campaign range effects

  pub valid_turn : (effects : Effects) → EffectsValid effects → TurnValid (turn_of ring effects)
  valid_turn effects d = by_role effects.part.coordinator.role d.part.role
    where
      by_role : (role : Role) → RoleValid role → TurnValid (turn_in ring effects role)
      by_role Idle r = d
      by_role (Active campaign) r = by_choice (choice ring (advanced effects.part campaign) effects.part.learner.held) refl
        where
          up : CampaignValid (advanced effects.part campaign)
          up = record { ballot = r.ballot; reports = r.reports; ordered = r.ordered; pending = r.pending; outstanding = r.outstanding; covered = r.covered }

          by_choice : (c : Choice) → choice ring (advanced effects.part campaign) effects.part.learner.held ≡ c → TurnValid (turn_by effects (advanced effects.part campaign) c)
          by_choice Rests e = record { part = record { kept = d.part.kept; role = up; round = d.part.round; held = d.part.held; ordered = d.part.ordered }; changes = d.changes; frames = d.frames; learned = d.learned; lines = d.lines }
          by_choice (Offers range taken) e = record {
            may = choice_may ring (advanced effects.part campaign) effects.part.learner.held up d.part.ordered
                (gap (max campaign.next effects.part.kept.trim) effects.part.learner.held d.part.ordered).not_held range taken e;
            campaign_valid = up;
            effects_valid = d;
          }

  pub valid_proposing : (count : ℕ) (link : Link) (turn : Turn) → TurnValid turn → EffectsValid (proposing count ring link turn)
  unfolding proposing
  valid_proposing zero link (Stops effects) t = t
  valid_proposing zero link (Proposes campaign range taken effects) t = t.effects_valid
  valid_proposing (suc count) link (Stops effects) t = t
  valid_proposing (suc count) link (Proposes campaign range taken effects) t =
      valid_proposing count link (turn_of ring (offers ring link campaign range taken effects)) (valid_turn (offers ring link campaign range taken effects) (valid_offers effects link campaign range taken t.may t.campaign_valid t.effects_valid))

  pub valid_proposes : (effects : Effects) (link : Link) → EffectsValid effects → EffectsValid (proposes_after ring link effects)
  unfolding proposes_after
  valid_proposes effects link d = valid_proposing END link (turn_of ring effects) (valid_turn effects d)
