-- The words of a rule, and proposing: each frame that they send fits, and no proposal is outstanding that lies below the trim.
use Rattle.std.proofs.Common.{◌≡◌, inl, inr, ℕ, zero, suc, ◌-◌, ◌<◌, ◌≤◌, max, Bool, true, false, ◌||◌, List, [], ◌∷◌, ◌++◌, length, Option, Some, None, refl, sym, ap, subst, arith}
use Rattle.std.specs.Prelude.{◌==◌, nat_lt, nat_le, not, if◌then◌else◌, count_ones}
use Rattle.std.specs.List.{AllByRecursion}
use Rattle.std.proofs.lemmas.Bool.{cases_lt}
use Rattle.mrp_types.specs.declared.id.NodeId.{NodeId}
use Rattle.mrp_types.specs.declared.id.TheConstants.{END}
use Rattle.mrp_types.specs.declared.id.Party.TheVariants.{Node}
use Rattle.mrp_types.specs.declared.value.Value.{Value}
use Rattle.mrp_types.specs.declared.voted.Voted.{Voted}
use Rattle.mrp_types.specs.declared.voted.Decided.{Decided}
use Rattle.vote_state.specs.declared.change.Change.TheVariants as change
use Rattle.vote_state.specs.Ranges.{are_held}
use Rattle.vote_state.specs.State.{with_trim}
use Rattle.vote_state.specs.Valid.{IsRing}
use Rattle.vote_state.proofs.StateLemmas.{append_all}
use Rattle.ring_link.specs.Silence.{Link}
use Rattle.frames.specs.declared.body.Body.{Body}
use Rattle.frames.specs.declared.body.Body.TheVariants as body
use Rattle.frames.specs.declared.sent.Sent.{Sent}
use Rattle.protocol.specs.Parts.{Ring, Campaign, Role, Idle, Active, Part, Effects}
use Rattle.protocol.specs.Rings.{majority_of, next_acceptor, next_member, is_beyond, sends, sends_to, sends_each}
use Rattle.protocol.specs.Effects.{no_effects, with_part, with_change, with_frames, with_kept, with_campaign}
use Rattle.protocol.specs.Learner.{decided_of, entries_within, are_all_held, is_finished, unfinished, role_unfinished, without_finished}
use Rattle.protocol.specs.Acceptor.{idle_below, promises, votes_for, promises_anew, votes_anew, trims_to, first_decide, decides, decides_or_forwards}
use Rattle.protocol.specs.Proposing.{Choice, Rests, Offers, choice, advanced, own_mask, after_offer, vote_of, offers, Turn, Stops, Proposes, turn_by, turn_in, turn_of, proposing, proposes_after}
use Rattle.protocol.proofs.EntryLemmas.{gap}
use Rattle.protocol.proofs.OfferLemmas.{choice_offer}
use Rattle.step_valid.specs.Valid.{CampaignValid, RoleValid, EffectsValid}
use Rattle.step_valid.proofs.Choosing.{choice_may}
use Rattle.step_valid.proofs.Words.{MayPropose, valid_offers}
use Rattle.step_shape.specs.Shaped.{BodyFits, SentFits, IsOpen, OpenFits, NextFits, EffectsNear}

-- ---- what is sent

abbrev pub AllFit : (ℕ → Type 0) → NodeId → List Sent → Type 0
AllFit fine id frames = AllByRecursion (SentFits fine id) frames

-- by a node, under whatever name the rule has for it
pub to_fits : (fine : ℕ → Type 0) (id own to : NodeId) (b : Body) → own ≡ id → BodyFits fine b → AllFit fine id (sends_to own to b)
to_fits fine id own to b mine is = go (to.0 == own.0 || is_beyond b)
  where
    go : (t : Bool) → AllFit fine id (if t then [] else (record { to = Node to; frame = record { from = Node own; body = b } }) ∷ [])
    go true = tt
    go false = (record { from = ap (λ (n : NodeId). Node n) mine; to = tt; fits = is }, tt)

-- ---- proposals that are open

-- an empty range is held, so one that isn't finished has an instance that isn't below the trim
none_held : (lo n : ℕ) (es : List (ℕ × Value)) → n ≡ 0 → are_all_held lo n es ≡ true
unfolding are_all_held
none_held lo zero es e = refl
none_held lo (suc n) es e = absurd (omega arith)

still_open : (trim : ℕ) (held : List (ℕ × Value)) (range : Decided) → not (is_finished trim held range) ≡ true → IsOpen trim range
still_open trim held range e = elim (cases_lt (max trim range.lo) range.hi) [
  | inl lt ↦ omega arith
  | inr empty ↦
      let all : is_finished trim held range ≡ true = none_held (max trim range.lo) (range.hi - max trim range.lo) (entries_within (max trim range.lo) range.hi held) (omega arith) in
      absurd (cc)
]

open_left : (trim : ℕ) (held : List (ℕ × Value)) (ranges : List Decided) → AllByRecursion (IsOpen trim) (unfinished trim held ranges)
open_left trim held [] = tt
open_left trim held (range ∷ ranges) = go (not (is_finished trim held range)) refl (open_left trim held ranges)
  where
    go : (b : Bool) → not (is_finished trim held range) ≡ b → AllByRecursion (IsOpen trim) (unfinished trim held ranges)
        → AllByRecursion (IsOpen trim) (if b then range ∷ unfinished trim held ranges else unfinished trim held ranges)
    go true e rest = (still_open trim held range e, rest)
    go false e rest = rest

pub open_unfinished : (trim : ℕ) (held : List (ℕ × Value)) (role : Role) → OpenFits trim (role_unfinished trim held role)
open_unfinished trim held Idle = tt
open_unfinished trim held (Active campaign) = open_left trim held campaign.outstanding

pub next_unfinished : (trim : ℕ) (held : List (ℕ × Value)) (role : Role) → NextFits trim role → NextFits trim (role_unfinished trim held role)
next_unfinished trim held Idle n = tt
next_unfinished trim held (Active campaign) n = n

-- what a rule has made that has proposed
pub record EffectsNext (fine : ℕ → Type 0) (id : NodeId) (effects : Effects) : Type 0 where
  pub near : EffectsNear fine id effects
  pub next : NextFits effects.part.kept.trim effects.part.coordinator.role

-- ---- words

module _ (ring : Ring) (numbered : IsRing ring.id) (fine : ℕ → Type 0) (id : NodeId) (mine : ring.own ≡ id) where
  pub sends_fit : (to : Option NodeId) (b : Body) → BodyFits fine b → AllFit fine id (sends ring to b)
  sends_fit None b is = tt
  sends_fit (Some to) b is = to_fits fine id ring.own to b mine is

  pub each_fit : (nodes : List NodeId) (b : Body) → BodyFits fine b → AllFit fine id (sends_each ring nodes b)
  each_fit [] b is = tt
  each_fit (node ∷ nodes) b is = append_all (SentFits fine id) (sends ring (Some node) b) (sends_each ring nodes b) (sends_fit (Some node) b is) (each_fit nodes b is)

  pub near_frames : (effects : Effects) (frames : List Sent) → AllFit fine id frames → EffectsNear fine id effects → EffectsNear fine id (with_frames frames effects)
  near_frames effects frames is n = record { outstanding = n.outstanding; frames = append_all (SentFits fine id) effects.frames frames n.frames is }

  pub near_none : (part : Part) → OpenFits part.kept.trim part.coordinator.role → EffectsNear fine id (no_effects part)
  near_none part o = record { outstanding = o; frames = tt }

  idle_open : (ballot trim : ℕ) (role : Role) → OpenFits trim role → OpenFits trim (idle_below ballot role)
  idle_open ballot trim Idle o = tt
  idle_open ballot trim (Active campaign) o = go (nat_lt campaign.ballot ballot)
    where
      go : (b : Bool) → OpenFits trim (if b then Idle else Active campaign)
      go true = tt
      go false = o

  pub near_promises : (effects : Effects) (ballot : ℕ) → EffectsNear fine id effects → EffectsNear fine id (promises ring ballot effects)
  near_promises effects ballot n = record { outstanding = idle_open ballot effects.part.kept.trim effects.part.coordinator.role n.outstanding; frames = n.frames }

  pub near_promises_anew : (effects : Effects) (ballot : ℕ) → EffectsNear fine id effects → EffectsNear fine id (promises_anew ring ballot effects)
  near_promises_anew effects ballot n = go (ballot == effects.part.kept.promise)
    where
      go : (b : Bool) → EffectsNear fine id (if b then effects else promises ring ballot effects)
      go true = n
      go false = near_promises effects ballot n

  near_votes : (effects : Effects) (vote : Voted) → EffectsNear fine id effects → EffectsNear fine id (votes_for ring vote effects)
  near_votes effects vote n = record { outstanding = n.outstanding; frames = n.frames }

  pub near_votes_anew : (effects : Effects) (vote : Voted) → EffectsNear fine id effects → EffectsNear fine id (votes_anew ring vote effects)
  near_votes_anew effects vote n = go (are_held vote effects.part.kept.votes)
    where
      go : (b : Bool) → EffectsNear fine id (if b then effects else votes_for ring vote effects)
      go true = n
      go false = near_votes effects vote n

  pub near_trims : (effects : Effects) (trim : ℕ) → EffectsNear fine id effects → EffectsNear fine id (trims_to ring trim effects)
  near_trims effects trim n = go (nat_le trim effects.part.kept.trim)
    where
      go : (b : Bool) → EffectsNear fine id (if b then effects else with_change (change.Trim ring.id trim) (without_finished (with_kept (with_trim trim effects.part.kept) effects.part)) effects)
      go true = n
      go false = record { outstanding = open_unfinished trim effects.part.learner.held effects.part.coordinator.role; frames = n.frames }

  pub near_decides_or_forwards : (effects : Effects) (link : Link) (mask : ℕ) (vote : Voted) → vote.lo < vote.hi → EffectsNear fine id effects → EffectsNear fine id (decides_or_forwards ring link mask vote effects)
  near_decides_or_forwards effects link mask vote some n = go (nat_le (majority_of ring) (count_ones mask))
    where
      first : (b : Bool) → AllFit fine id (if b then sends ring (next_member ring link) (body.Decide ring.id vote.lo vote.hi (length ring.members - 2) vote.value) else [])
      first true = sends_fit (next_member ring link) (body.Decide ring.id vote.lo vote.hi (length ring.members - 2) vote.value) (numbered, some)
      first false = tt

      go : (b : Bool) → EffectsNear fine id (if b then decides ring link (decided_of vote) effects
          else with_frames (sends ring (next_acceptor ring link) (body.Accept ring.id vote.ballot vote.lo vote.hi mask vote.value)) effects)
      go true =
          let sent = near_frames effects (first_decide ring link (decided_of vote)) (first (nat_le 2 (length ring.members))) n in
          record { outstanding = sent.outstanding; frames = sent.frames }
      go false = near_frames effects (sends ring (next_acceptor ring link) (body.Accept ring.id vote.ballot vote.lo vote.hi mask vote.value))
          (sends_fit (next_acceptor ring link) (body.Accept ring.id vote.ballot vote.lo vote.hi mask vote.value) (numbered, some)) n

  -- ---- proposing

  -- what decides or forwards leaves the part as it was
  same_part : (effects : Effects) (link : Link) (mask : ℕ) (vote : Voted) → (decides_or_forwards ring link mask vote effects).part ≡ effects.part
  same_part effects link mask vote = go (nat_le (majority_of ring) (count_ones mask))
    where
      go : (b : Bool) → (if b then decides ring link (decided_of vote) effects
          else with_frames (sends ring (next_acceptor ring link) (body.Accept ring.id vote.ballot vote.lo vote.hi mask vote.value)) effects).part ≡ effects.part
      go true = refl
      go false = refl

  pub fits_offers : (effects : Effects) (link : Link) (campaign : Campaign) (range : Decided) (taken : ℕ) → AllByRecursion (IsOpen effects.part.kept.trim) campaign.outstanding
      → effects.part.kept.trim ≤ range.lo → range.lo < range.hi → AllFit fine id effects.frames → EffectsNext fine id (offers ring link campaign range taken effects)
  unfolding offers
  fits_offers effects link campaign range taken unended low some frames =
      let begun : Effects = with_part (with_campaign (after_offer ring range taken campaign) effects.part) effects in
      let voted : Effects = votes_for ring (vote_of campaign.ballot range) begun in
      record {
        near = near_decides_or_forwards voted link (own_mask ring) (vote_of campaign.ballot range) some (record { outstanding = out (nat_le (length ring.acceptors) 1); frames = frames });
        next = subst (λ (p : Part). NextFits p.kept.trim p.coordinator.role) (sym (same_part voted link (own_mask ring) (vote_of campaign.ballot range))) (omega arith);
      }
    where
      out : (b : Bool) → AllByRecursion (IsOpen effects.part.kept.trim) (if b then campaign.outstanding else campaign.outstanding ++ range ∷ [])
      out true = unended
      out false = append_all (IsOpen effects.part.kept.trim) campaign.outstanding (range ∷ []) unended (omega arith, tt)

  -- a turn, with what may be proposed
  pub record MayOffer (campaign : Campaign) (range : Decided) (effects : Effects) : Type 0 where
    pub outstanding : AllByRecursion (IsOpen effects.part.kept.trim) campaign.outstanding
    pub low : effects.part.kept.trim ≤ range.lo
    pub frames : AllFit fine id effects.frames
    pub valid : MayPropose ring numbered campaign range effects

  abbrev TurnFits : (Effects → Type 0) → Turn → Type 0
  TurnFits P (Stops effects) = EffectsNext fine id effects
  TurnFits P (Proposes campaign range taken effects) = MayOffer campaign range effects × P effects

  fits_turn : (P : Effects → Type 0) (effects : Effects) → EffectsValid effects → EffectsNear fine id effects → P effects → TurnFits P (turn_of ring effects)
  fits_turn P effects d n more = by_role effects.part.coordinator.role d.part.role n.outstanding refl
    where
      by_role : (role : Role) → RoleValid role → OpenFits effects.part.kept.trim role → effects.part.coordinator.role ≡ role → TurnFits P (turn_in ring effects role)
      by_role Idle r o e = record { near = n; next = subst (λ (x : Role). NextFits effects.part.kept.trim x) (sym e) tt }
      by_role (Active campaign) r o e = by_choice (choice ring (advanced effects.part campaign) effects.part.learner.held) refl
        where
          up : CampaignValid (advanced effects.part campaign)
          up = record { ballot = r.ballot; reports = r.reports; ordered = r.ordered; pending = r.pending; outstanding = r.outstanding; covered = r.covered }

          past : effects.part.kept.trim ≤ (advanced effects.part campaign).next
          past = let is = (gap (max campaign.next effects.part.kept.trim) effects.part.learner.held d.part.ordered).from_there in omega arith

          by_choice : (c : Choice) → choice ring (advanced effects.part campaign) effects.part.learner.held ≡ c → TurnFits P (turn_by effects (advanced effects.part campaign) c)
          by_choice Rests is = record { near = record { outstanding = o; frames = n.frames }; next = past }
          by_choice (Offers range taken) is =
              let unlearned = (gap (max campaign.next effects.part.kept.trim) effects.part.learner.held d.part.ordered).not_held in
              let offer = choice_offer ring (advanced effects.part campaign) effects.part.learner.held r.ordered d.part.ordered unlearned range taken is in
              let begins = offer.begins in (
                record {
                  outstanding = o;
                  low = subst (λ (k : ℕ). effects.part.kept.trim ≤ k) (sym begins) past;
                  frames = n.frames;
                  valid = record { may = choice_may ring (advanced effects.part campaign) effects.part.learner.held up d.part.ordered unlearned range taken is; campaign_valid = up; effects_valid = d };
                },
                more,
              )

  -- a proposal is made
  offered : (link : Link) (campaign : Campaign) (range : Decided) (taken : ℕ) (effects : Effects) → MayOffer campaign range effects → EffectsNext fine id (offers ring link campaign range taken effects)
  offered link campaign range taken effects m = fits_offers effects link campaign range taken m.outstanding m.low m.valid.may.range m.frames

  then_turns : (link : Link) (campaign : Campaign) (range : Decided) (taken : ℕ) (effects : Effects) → MayOffer campaign range effects → TurnFits (EffectsNext fine id) (turn_of ring (offers ring link campaign range taken effects))
  then_turns link campaign range taken effects m =
      let made = offered link campaign range taken effects m in
      fits_turn (EffectsNext fine id) (offers ring link campaign range taken effects) (valid_offers ring numbered effects link campaign range taken m.valid.may m.valid.campaign_valid m.valid.effects_valid) made.near made

  goes_on : (count : ℕ) (link : Link) (turn : Turn) → TurnFits (EffectsNext fine id) turn → EffectsNext fine id (proposing count ring link turn)
  unfolding proposing
  goes_on zero link (Stops effects) t = t
  goes_on zero link (Proposes campaign range taken effects) t = t.1
  goes_on (suc count) link (Stops effects) t = t
  goes_on (suc count) link (Proposes campaign range taken effects) t = goes_on count link (turn_of ring (offers ring link campaign range taken effects)) (then_turns link campaign range taken effects t.0)

  begins : (count : ℕ) (link : Link) (turn : Turn) → 0 < count → TurnFits (λ e. Unit {0}) turn → EffectsNext fine id (proposing count ring link turn)
  unfolding proposing
  begins zero link turn some t = absurd (omega arith)
  begins (suc count) link (Stops effects) some t = t
  begins (suc count) link (Proposes campaign range taken effects) some t = goes_on count link (turn_of ring (offers ring link campaign range taken effects)) (then_turns link campaign range taken effects t.0)

  pub fits_proposes : (effects : Effects) (link : Link) → EffectsValid effects → EffectsNear fine id effects → EffectsNext fine id (proposes_after ring link effects)
  unfolding proposes_after
  fits_proposes effects link d n = begins END link (turn_of ring effects) (omega arith) (fits_turn (λ e. Unit {0}) effects d n tt)

  -- ---- words after which nothing need be proposed

  pub next_idle : (ballot trim : ℕ) (role : Role) → NextFits trim role → NextFits trim (idle_below ballot role)
  next_idle ballot trim Idle n = tt
  next_idle ballot trim (Active campaign) n = go (nat_lt campaign.ballot ballot)
    where
      go : (b : Bool) → NextFits trim (if b then Idle else Active campaign)
      go true = tt
      go false = n

  pub next_promises : (effects : Effects) (ballot : ℕ) → EffectsNext fine id effects → EffectsNext fine id (promises ring ballot effects)
  next_promises effects ballot n = record { near = near_promises effects ballot n.near; next = next_idle ballot effects.part.kept.trim effects.part.coordinator.role n.next }

  pub next_promises_anew : (effects : Effects) (ballot : ℕ) → EffectsNext fine id effects → EffectsNext fine id (promises_anew ring ballot effects)
  next_promises_anew effects ballot n = go (ballot == effects.part.kept.promise)
    where
      go : (b : Bool) → EffectsNext fine id (if b then effects else promises ring ballot effects)
      go true = n
      go false = next_promises effects ballot n

  pub next_votes_anew : (effects : Effects) (vote : Voted) → EffectsNext fine id effects → EffectsNext fine id (votes_anew ring vote effects)
  next_votes_anew effects vote n = go (are_held vote effects.part.kept.votes)
    where
      go : (b : Bool) → EffectsNext fine id (if b then effects else votes_for ring vote effects)
      go true = n
      go false = record { near = near_votes effects vote n.near; next = n.next }

  pub next_decides_or_forwards : (effects : Effects) (link : Link) (mask : ℕ) (vote : Voted) → vote.lo < vote.hi → EffectsNext fine id effects → EffectsNext fine id (decides_or_forwards ring link mask vote effects)
  next_decides_or_forwards effects link mask vote some n = record {
    near = near_decides_or_forwards effects link mask vote some n.near;
    next = subst (λ (p : Part). NextFits p.kept.trim p.coordinator.role) (sym (same_part effects link mask vote)) n.next;
  }
