-- The words that a rule of a ring is made of: each leaves the learner, and what was told.
use Rattle.plain_model.proofs.TupleAt.{by_number}
use Rattle.vote_state.specs.declared.ring.RingState.{RingState}
use Rattle.recovery_lines.proofs.Printing.{said_sends}
use Rattle.step_lines.specs.Effects.{Stays, IsPlain, EffectsTold}
use Rattle.std.proofs.Common.{◌≡◌, ℕ, zero, suc, ◌⊎◌, inl, inr, List, [], ◌∷◌, ◌++◌, Option, Some, None, refl, sym, ◌∙◌, ap, subst, slice_index_or, slice_set}
use Rattle.std.specs.Prelude.{◌==◌, nat_le, length, ◌-◌, count_ones}
use Rattle.std.specs.List.{AllByRecursion}
use Rattle.mrp_types.specs.declared.id.NodeId.{NodeId}
use Rattle.mrp_types.specs.declared.id.RingId.{RingId}
use Rattle.mrp_types.specs.declared.id.TheConstants.{END}
use Rattle.mrp_types.specs.declared.voted.Voted.{Voted}
use Rattle.mrp_types.specs.declared.voted.Decided.{Decided}
use Rattle.mrp_config.specs.Config.{Config}
use Rattle.vote_state.specs.Ranges.{are_held}
use Rattle.vote_state.specs.declared.change.Change.TheVariants as changes
use Rattle.vote_state.specs.declared.change.Change.{Change}
use Rattle.vote_state.specs.State.{State, ring_at, taken, changed, with_vote, with_trim, with_ring, with_promise, no_votes}
use Rattle.ring_link.specs.Silence.{Link}
use Rattle.frames.specs.declared.body.Body.{Body}
use Rattle.frames.specs.declared.body.Body.TheVariants.{Accept, Decide}
use Rattle.frames.specs.declared.sent.Sent.{Sent}
use Rattle.protocol.specs.Lines.{Line}
use Rattle.protocol.specs.Parts.{Ring, Rounds, Role, Idle, Active, Campaign, Effects, Coordinator}
use Rattle.protocol.specs.Rings.{sends, sends_each, majority_of, next_acceptor, next_member}
use Rattle.protocol.specs.Effects.{with_part, with_frames, with_line, with_change, with_kept, with_learned, with_rounds, in_role, with_campaign, with_coordinator}
use Rattle.protocol.specs.Acceptor.{votes_for, promises_anew, votes_anew, trims_to, decides_or_forwards, decides, first_decide, promises, promised_part}
use Rattle.protocol.specs.Learner.{without_finished, decided_of}
use Rattle.protocol.specs.Proposing.{Choice, Rests, Offers, choice, offers, own_mask, vote_of, after_offer, Turn, Stops, Proposes, turn_by, turn_in, turn_of, advanced, proposing, proposes_after}
use Rattle.recovery_lines.specs.Ties.{IsSaid, BodySaid, CurrentLines, IsCovered, AreCovered}
use Rattle.recovery_lines.proofs.Hearing.{by_test}
use Rattle.quorums.proofs.Each.{appended}

set_at : (xs : List RingState) (i j : ℕ) (r none : RingState) → (slice_index_or (slice_set xs i r) j none ≡ slice_index_or xs j none) ⊎ ((i ≡ j) × (slice_index_or (slice_set xs i r) j none ≡ r))
set_at [] i j r none = inl refl
set_at (x ∷ xs) zero zero r none = inr (refl, refl)
set_at (x ∷ xs) zero (suc j) r none = inl refl
set_at (x ∷ xs) (suc i) zero r none = inl refl
set_at (x ∷ xs) (suc i) (suc j) r none = elim (set_at xs i j r none) [
  | inl e ↦ inl e
  | inr e ↦ inr (ap (λ (n : ℕ). suc n) e.0, e.1)
]

taken_one : (xs : List Change) (y : Change) (s : State) → taken (xs ++ y ∷ []) s ≡ changed y (taken xs s)
taken_one [] y s = refl
taken_one (x ∷ xs) y s = taken_one xs y (changed x s)

module _ (c : Config) (lines : List Line) where
  pub covered_with : (ring : RingId) (r : RingState) (s : State) → AreCovered c lines s → IsCovered c lines ring r.trim → AreCovered c lines (with_ring ring r s)
  covered_with ring r s all one other = elim (set_at s.rings ring.0 other.0 r no_votes) [
    | inl e ↦ subst (λ (n : ℕ). IsCovered c lines other n) (sym (ap (λ (q : RingState). q.trim) e)) (all other)
    | inr e ↦ subst (λ (n : ℕ). IsCovered c lines other n) (sym (ap (λ (q : RingState). q.trim) e.1)) (subst (λ (q : RingId). IsCovered c lines q r.trim) (by_number ring other e.0) one)
  ]

  -- frames of a ring
  pub ring_sends : (ring : Ring) (to : Option NodeId) (b : Body) → ((node : NodeId) → BodySaid c lines ring.own node b) → AllByRecursion (IsSaid c lines) (sends ring to b)
  ring_sends ring None b s = tt
  ring_sends ring (Some to) b s = said_sends c lines ring.own to b (s to)

  pub ring_sends_each : (ring : Ring) (nodes : List NodeId) (b : Body) → ((node : NodeId) → BodySaid c lines ring.own node b) → AllByRecursion (IsSaid c lines) (sends_each ring nodes b)
  ring_sends_each ring [] b s = tt
  ring_sends_each ring (node ∷ nodes) b s = appended (IsSaid c lines) (sends ring (Some node) b) (sends_each ring nodes b) (ring_sends ring (Some node) b s) (ring_sends_each ring nodes b s)

  module _ (ring : RingId) where
    pub Stays-refl : (effects : Effects) → Stays c lines ring effects effects
    Stays-refl effects = record { learner = refl; told = λ t. t }

    pub Stays-trans : (a b d : Effects) → Stays c lines ring a b → Stays c lines ring b d → Stays c lines ring a d
    Stays-trans a b d p q = record { learner = q.learner ∙ p.learner; told = λ t. q.told (p.told t) }

    pub stays_frames : (effects : Effects) (frames : List Sent) → (EffectsTold c lines ring effects → AllByRecursion (IsSaid c lines) frames) → Stays c lines ring effects (with_frames frames effects)
    stays_frames effects frames s = record {
      learner = refl;
      told = λ t. record { round = t.round; trim = t.trim; frames = appended (IsSaid c lines) effects.frames frames t.frames (s t); plain = t.plain; changes = t.changes; epoch = t.epoch };
    }

    pub stays_line : (effects : Effects) (l : Line) → IsPlain c lines l → Stays c lines ring effects (with_line l effects)
    stays_line effects l plain = record {
      learner = refl;
      told = λ t. record { round = t.round; trim = t.trim; frames = t.frames; plain = appended (IsPlain c lines) effects.lines (l ∷ []) t.plain (plain, tt); changes = t.changes; epoch = t.epoch };
    }

    pub stays_learned : (effects : Effects) (range : Decided) → Stays c lines ring effects (with_learned range effects)
    stays_learned effects range = record { learner = refl; told = λ t. record { round = t.round; trim = t.trim; frames = t.frames; plain = t.plain; changes = t.changes; epoch = t.epoch } }

    -- the coordinator alone
    pub stays_coordinator : (effects : Effects) (coordinator : Coordinator) → Stays c lines ring effects (with_part (with_coordinator coordinator effects.part) effects)
    stays_coordinator effects coordinator = record { learner = refl; told = λ t. record { round = t.round; trim = t.trim; frames = t.frames; plain = t.plain; changes = t.changes; epoch = t.epoch } }

    -- the rounds alone
    pub stays_rounds : (effects : Effects) (rounds : Rounds) → CurrentLines c lines ring rounds.current → Stays c lines ring effects (with_part (with_rounds rounds effects.part) effects)
    stays_rounds effects rounds r = record { learner = refl; told = λ t. record { round = r; trim = t.trim; frames = t.frames; plain = t.plain; changes = t.changes; epoch = t.epoch } }

module _ (c : Config) (lines : List Line) (ring : Ring) where
  pub stays_votes : (vote : Voted) (effects : Effects) → Stays c lines ring.id effects (votes_for ring vote effects)
  stays_votes vote effects = record {
    learner = refl;
    told = λ t. record {
      round = t.round;
      trim = t.trim;
      frames = t.frames;
      plain = t.plain;
      changes = λ s h. subst (λ (q : State). AreCovered c lines q) (sym (taken_one effects.changes (changes.Vote ring.id vote) s))
          (covered_with c lines ring.id (with_vote vote (ring_at (taken effects.changes s) ring.id)) (taken effects.changes s) (t.changes s h) (t.changes s h ring.id));
      epoch = λ s. ap (λ (q : State). q.epoch) (taken_one effects.changes (changes.Vote ring.id vote) s) ∙ t.epoch s;
    };
  }

  pub stays_votes_anew : (vote : Voted) (effects : Effects) → Stays c lines ring.id effects (votes_anew ring vote effects)
  stays_votes_anew vote effects =
      by_test (Stays c lines ring.id effects) (are_held vote effects.part.kept.votes) effects (votes_for ring vote effects) (λ e. Stays-refl c lines ring.id effects) (stays_votes vote effects)

  pub stays_promises : (ballot : ℕ) (effects : Effects) → Stays c lines ring.id effects (promises ring ballot effects)
  stays_promises ballot effects = record {
    learner = refl;
    told = λ t. record {
      round = t.round;
      trim = t.trim;
      frames = t.frames;
      plain = t.plain;
      changes = λ s h. subst (λ (q : State). AreCovered c lines q) (sym (taken_one effects.changes (changes.Promise ring.id ballot) s))
          (covered_with c lines ring.id (with_promise ballot (ring_at (taken effects.changes s) ring.id)) (taken effects.changes s) (t.changes s h) (t.changes s h ring.id));
      epoch = λ s. ap (λ (q : State). q.epoch) (taken_one effects.changes (changes.Promise ring.id ballot) s) ∙ t.epoch s;
    };
  }

  pub stays_promises_anew : (ballot : ℕ) (effects : Effects) → Stays c lines ring.id effects (promises_anew ring ballot effects)
  stays_promises_anew ballot effects =
      by_test (Stays c lines ring.id effects) (ballot == effects.part.kept.promise) effects (promises ring ballot effects) (λ e. Stays-refl c lines ring.id effects) (stays_promises ballot effects)

  pub stays_trims : (trim : ℕ) (effects : Effects) → IsCovered c lines ring.id trim → Stays c lines ring.id effects (trims_to ring trim effects)
  stays_trims trim effects covered =
      by_test (Stays c lines ring.id effects) (nat_le trim effects.part.kept.trim) effects (with_change (changes.Trim ring.id trim) (without_finished (with_kept (with_trim trim effects.part.kept) effects.part)) effects)
      (λ e. Stays-refl c lines ring.id effects)
      (record {
        learner = refl;
        told = λ t. record {
          round = t.round;
          trim = covered;
          frames = t.frames;
          plain = t.plain;
          changes = λ s h. subst (λ (q : State). AreCovered c lines q) (sym (taken_one effects.changes (changes.Trim ring.id trim) s))
              (covered_with c lines ring.id (with_trim trim (ring_at (taken effects.changes s) ring.id)) (taken effects.changes s) (t.changes s h) covered);
          epoch = λ s. ap (λ (q : State). q.epoch) (taken_one effects.changes (changes.Trim ring.id trim) s) ∙ t.epoch s;
        };
      })

  pub stays_decides_or_forwards : (link : Link) (mask : ℕ) (vote : Voted) (effects : Effects) → Stays c lines ring.id effects (decides_or_forwards ring link mask vote effects)
  stays_decides_or_forwards link mask vote effects =
      by_test (Stays c lines ring.id effects) (nat_le (majority_of ring) (count_ones mask)) (decides ring link (decided_of vote) effects)
      (with_frames (sends ring (next_acceptor ring link) (Accept ring.id vote.ballot vote.lo vote.hi mask vote.value)) effects)
      (λ e. Stays-trans c lines ring.id effects (with_frames (first_decide ring link (decided_of vote)) effects) (decides ring link (decided_of vote) effects)
      (stays_frames c lines ring.id effects (first_decide ring link (decided_of vote))
      (λ t. by_test (AllByRecursion (IsSaid c lines)) (nat_le 2 (length ring.members))
      (sends ring (next_member ring link) (Decide ring.id vote.lo vote.hi (length ring.members - 2) vote.value)) []
      (λ q. ring_sends c lines ring (next_member ring link) (Decide ring.id vote.lo vote.hi (length ring.members - 2) vote.value) (λ node. tt)) tt))
      (stays_learned c lines ring.id (with_frames (first_decide ring link (decided_of vote)) effects) (decided_of vote)))
      (stays_frames c lines ring.id effects (sends ring (next_acceptor ring link) (Accept ring.id vote.ballot vote.lo vote.hi mask vote.value))
      (λ t. ring_sends c lines ring (next_acceptor ring link) (Accept ring.id vote.ballot vote.lo vote.hi mask vote.value) (λ node. tt)))

  pub stays_offers : (link : Link) (campaign : Campaign) (range : Decided) (taken : ℕ) (effects : Effects) → Stays c lines ring.id effects (offers ring link campaign range taken effects)
  unfolding offers
  stays_offers link campaign range taken effects =
      let now : Effects = with_part (with_campaign (after_offer ring range taken campaign) effects.part) effects in
      let voted : Effects = votes_for ring (vote_of campaign.ballot range) now in
      Stays-trans c lines ring.id effects now (decides_or_forwards ring link (own_mask ring) (vote_of campaign.ballot range) voted)
      (stays_coordinator c lines ring.id effects (in_role (Active (after_offer ring range taken campaign)) effects.part.coordinator))
      (Stays-trans c lines ring.id now voted (decides_or_forwards ring link (own_mask ring) (vote_of campaign.ballot range) voted) (stays_votes (vote_of campaign.ballot range) now)
      (stays_decides_or_forwards link (own_mask ring) (vote_of campaign.ballot range) voted))

  TurnStays : Effects → Turn → Type 0
  TurnStays old (Stops effects) = Stays c lines ring.id old effects
  TurnStays old (Proposes campaign range taken effects) = Stays c lines ring.id old effects

  turn_stays : (effects : Effects) → TurnStays effects (turn_of ring effects)
  unfolding TurnStays
  turn_stays effects = by_role effects.part.coordinator.role
    where
      by_choice : (campaign : Campaign) (ch : Choice) → TurnStays effects (turn_by effects campaign ch)
      by_choice campaign Rests = stays_coordinator c lines ring.id effects (in_role (Active campaign) effects.part.coordinator)
      by_choice campaign (Offers range taken) = Stays-refl c lines ring.id effects

      by_role : (role : Role) → TurnStays effects (turn_in ring effects role)
      by_role Idle = Stays-refl c lines ring.id effects
      by_role (Active campaign) = by_choice (advanced effects.part campaign) (choice ring (advanced effects.part campaign) effects.part.learner.held)

  proposing_stays : (n : ℕ) (link : Link) (old : Effects) (turn : Turn) → TurnStays old turn → Stays c lines ring.id old (proposing n ring link turn)
  unfolding TurnStays proposing
  proposing_stays zero link old (Stops effects) s = s
  proposing_stays zero link old (Proposes campaign range taken effects) s = s
  proposing_stays (suc n) link old (Stops effects) s = s
  proposing_stays (suc n) link old (Proposes campaign range taken effects) s =
      let next : Effects = offers ring link campaign range taken effects in
      let last : Effects = proposing n ring link (turn_of ring next) in
      Stays-trans c lines ring.id old effects last s (Stays-trans c lines ring.id effects next last (stays_offers link campaign range taken effects) (proposing_stays n link next (turn_of ring next) (turn_stays next)))

  pub proposes_stays : (link : Link) (effects : Effects) → Stays c lines ring.id effects (proposes_after ring link effects)
  unfolding proposes_after
  proposes_stays link effects = proposing_stays END link effects (turn_of ring effects) (turn_stays effects)
