-- The words that a rule of a ring is made of are quiet.
use Rattle.std.proofs.Common.{◌≡◌, ℕ, zero, suc, List, [], ◌∷◌, Option, Some, None, refl, ◌∙◌}
use Rattle.std.specs.Prelude.{◌==◌, nat_le, length, ◌-◌, count_ones}
use Rattle.std.specs.List.{AllByRecursion}
use Rattle.mrp_types.specs.declared.id.NodeId.{NodeId}
use Rattle.mrp_types.specs.declared.id.TheConstants.{END}
use Rattle.mrp_types.specs.declared.voted.Voted.{Voted}
use Rattle.mrp_types.specs.declared.voted.Decided.{Decided}
use Rattle.vote_state.specs.Ranges.{are_held}
use Rattle.vote_state.specs.declared.change.Change.TheVariants as changes
use Rattle.vote_state.specs.State.{taken, with_trim}
use Rattle.ring_link.specs.Silence.{Link}
use Rattle.frames.specs.declared.body.Body.{Body}
use Rattle.frames.specs.declared.body.Body.TheVariants.{Accept, Decide}
use Rattle.frames.specs.declared.sent.Sent.{Sent}
use Rattle.protocol.specs.Lines.{Line}
use Rattle.protocol.specs.Parts.{Ring, Rounds, Role, Idle, Active, Campaign, Effects, Coordinator}
use Rattle.protocol.specs.Rings.{sends, sends_each, majority_of, next_acceptor, next_member}
use Rattle.protocol.specs.Effects.{with_part, with_frames, with_line, with_change, with_kept, with_learned, with_rounds, in_role, with_campaign, with_coordinator}
use Rattle.protocol.specs.Acceptor.{votes_for, promises_anew, votes_anew, trims_to, decides_or_forwards, decides, first_decide, promises}
use Rattle.protocol.specs.Learner.{without_finished, decided_of}
use Rattle.protocol.specs.Proposing.{Choice, Rests, Offers, choice, offers, own_mask, vote_of, after_offer, Turn, Stops, Proposes, turn_by, turn_in, turn_of, advanced, proposing, proposes_after}
use Rattle.quorums.proofs.Each.{appended}
use Rattle.quiet_rules.specs.Quiet.{IsPlainBody, IsPlainSent, IsRingLine, Quiet}
use Rattle.protocol.specs.Rings.{is_beyond, sent_by}
use Rattle.std.specs.Prelude.{if◌then◌else◌, ◌||◌, Bool, true, false}

pub by_test : {A : Type 0} (P : A → Type 0) (b : Bool) (x y : A) → (b ≡ true → P x) → P y → P (if b then x else y)
by_test P true x y here other = here refl
by_test P false x y here other = other

-- frames of a ring
pub ring_sends : (ring : Ring) (to : Option NodeId) (b : Body) → IsPlainBody b → AllByRecursion IsPlainSent (sends ring to b)
ring_sends ring None b s = tt
ring_sends ring (Some to) b s = by_test (AllByRecursion IsPlainSent) (to.0 == ring.own.0 || is_beyond b) [] (sent_by ring.own to b ∷ []) (λ e. tt) (s, tt)

pub ring_sends_each : (ring : Ring) (nodes : List NodeId) (b : Body) → IsPlainBody b → AllByRecursion IsPlainSent (sends_each ring nodes b)
ring_sends_each ring [] b s = tt
ring_sends_each ring (node ∷ nodes) b s = appended IsPlainSent (sends ring (Some node) b) (sends_each ring nodes b) (ring_sends ring (Some node) b s) (ring_sends_each ring nodes b s)

module _ (ring : Ring) where
  pub Quiet-refl : (effects : Effects) → Quiet ring effects effects
  Quiet-refl effects = record { learner = refl; frames = λ t. t; lines = λ t. t }

  pub Quiet-trans : (a b d : Effects) → Quiet ring a b → Quiet ring b d → Quiet ring a d
  Quiet-trans a b d p q = record { learner = q.learner ∙ p.learner; frames = λ t. q.frames (p.frames t); lines = λ t. q.lines (p.lines t) }

  pub quiet_frames : (effects : Effects) (frames : List Sent) → AllByRecursion IsPlainSent frames → Quiet ring effects (with_frames frames effects)
  quiet_frames effects frames s = record { learner = refl; frames = λ t. appended IsPlainSent effects.frames frames t s; lines = λ t. t }

  pub quiet_line : (effects : Effects) (l : Line) → IsRingLine ring l → Quiet ring effects (with_line l effects)
  quiet_line effects l is = record { learner = refl; frames = λ t. t; lines = λ t. appended (IsRingLine ring) effects.lines (l ∷ []) t (is, tt) }

  pub quiet_learned : (effects : Effects) (range : Decided) → Quiet ring effects (with_learned range effects)
  quiet_learned effects range = record { learner = refl; frames = λ t. t; lines = λ t. t }

  -- the coordinator alone
  pub quiet_coordinator : (effects : Effects) (coordinator : Coordinator) → Quiet ring effects (with_part (with_coordinator coordinator effects.part) effects)
  quiet_coordinator effects coordinator = record { learner = refl; frames = λ t. t; lines = λ t. t }

  -- the rounds alone
  pub quiet_rounds : (effects : Effects) (rounds : Rounds) → Quiet ring effects (with_part (with_rounds rounds effects.part) effects)
  quiet_rounds effects rounds = record { learner = refl; frames = λ t. t; lines = λ t. t }

module _ (ring : Ring) where
  pub quiet_votes : (vote : Voted) (effects : Effects) → Quiet ring effects (votes_for ring vote effects)
  quiet_votes vote effects = record { learner = refl; frames = λ t. t; lines = λ t. t }

  pub quiet_votes_anew : (vote : Voted) (effects : Effects) → Quiet ring effects (votes_anew ring vote effects)
  quiet_votes_anew vote effects =
      by_test (Quiet ring effects) (are_held vote effects.part.kept.votes) effects (votes_for ring vote effects) (λ e. Quiet-refl ring effects) (quiet_votes vote effects)

  pub quiet_promises : (ballot : ℕ) (effects : Effects) → Quiet ring effects (promises ring ballot effects)
  quiet_promises ballot effects = record { learner = refl; frames = λ t. t; lines = λ t. t }

  pub quiet_promises_anew : (ballot : ℕ) (effects : Effects) → Quiet ring effects (promises_anew ring ballot effects)
  quiet_promises_anew ballot effects =
      by_test (Quiet ring effects) (ballot == effects.part.kept.promise) effects (promises ring ballot effects) (λ e. Quiet-refl ring effects) (quiet_promises ballot effects)

  pub quiet_trims : (trim : ℕ) (effects : Effects) → Quiet ring effects (trims_to ring trim effects)
  quiet_trims trim effects =
      by_test (Quiet ring effects) (nat_le trim effects.part.kept.trim) effects (with_change (changes.Trim ring.id trim) (without_finished (with_kept (with_trim trim effects.part.kept) effects.part)) effects)
      (λ e. Quiet-refl ring effects) (record { learner = refl; frames = λ t. t; lines = λ t. t })

  pub quiet_decides_or_forwards : (link : Link) (mask : ℕ) (vote : Voted) (effects : Effects) → Quiet ring effects (decides_or_forwards ring link mask vote effects)
  quiet_decides_or_forwards link mask vote effects =
      by_test (Quiet ring effects) (nat_le (majority_of ring) (count_ones mask)) (decides ring link (decided_of vote) effects)
      (with_frames (sends ring (next_acceptor ring link) (Accept ring.id vote.ballot vote.lo vote.hi mask vote.value)) effects)
      (λ e. Quiet-trans ring effects (with_frames (first_decide ring link (decided_of vote)) effects) (decides ring link (decided_of vote) effects)
      (quiet_frames ring effects (first_decide ring link (decided_of vote))
      (by_test (AllByRecursion IsPlainSent) (nat_le 2 (length ring.members))
      (sends ring (next_member ring link) (Decide ring.id vote.lo vote.hi (length ring.members - 2) vote.value)) []
      (λ q. ring_sends ring (next_member ring link) (Decide ring.id vote.lo vote.hi (length ring.members - 2) vote.value) tt) tt))
      (quiet_learned ring (with_frames (first_decide ring link (decided_of vote)) effects) (decided_of vote)))
      (quiet_frames ring effects (sends ring (next_acceptor ring link) (Accept ring.id vote.ballot vote.lo vote.hi mask vote.value))
      (ring_sends ring (next_acceptor ring link) (Accept ring.id vote.ballot vote.lo vote.hi mask vote.value) tt))

  pub quiet_offers : (link : Link) (campaign : Campaign) (range : Decided) (taken : ℕ) (effects : Effects) → Quiet ring effects (offers ring link campaign range taken effects)
  unfolding offers
  quiet_offers link campaign range taken effects =
      let now : Effects = with_part (with_campaign (after_offer ring range taken campaign) effects.part) effects in
      let voted : Effects = votes_for ring (vote_of campaign.ballot range) now in
      Quiet-trans ring effects now (decides_or_forwards ring link (own_mask ring) (vote_of campaign.ballot range) voted)
      (quiet_coordinator ring effects (in_role (Active (after_offer ring range taken campaign)) effects.part.coordinator))
      (Quiet-trans ring now voted (decides_or_forwards ring link (own_mask ring) (vote_of campaign.ballot range) voted) (quiet_votes (vote_of campaign.ballot range) now)
      (quiet_decides_or_forwards link (own_mask ring) (vote_of campaign.ballot range) voted))

  TurnQuiet : Effects → Turn → Type 0
  TurnQuiet old (Stops effects) = Quiet ring old effects
  TurnQuiet old (Proposes campaign range taken effects) = Quiet ring old effects

  quiet_turn : (effects : Effects) → TurnQuiet effects (turn_of ring effects)
  unfolding TurnQuiet
  quiet_turn effects = by_role effects.part.coordinator.role
    where
      by_choice : (campaign : Campaign) (ch : Choice) → TurnQuiet effects (turn_by effects campaign ch)
      by_choice campaign Rests = quiet_coordinator ring effects (in_role (Active campaign) effects.part.coordinator)
      by_choice campaign (Offers range taken) = Quiet-refl ring effects

      by_role : (role : Role) → TurnQuiet effects (turn_in ring effects role)
      by_role Idle = Quiet-refl ring effects
      by_role (Active campaign) = by_choice (advanced effects.part campaign) (choice ring (advanced effects.part campaign) effects.part.learner.held)

  quiet_proposing : (n : ℕ) (link : Link) (old : Effects) (turn : Turn) → TurnQuiet old turn → Quiet ring old (proposing n ring link turn)
  unfolding TurnQuiet proposing
  quiet_proposing zero link old (Stops effects) s = s
  quiet_proposing zero link old (Proposes campaign range taken effects) s = s
  quiet_proposing (suc n) link old (Stops effects) s = s
  quiet_proposing (suc n) link old (Proposes campaign range taken effects) s =
      let next : Effects = offers ring link campaign range taken effects in
      let last : Effects = proposing n ring link (turn_of ring next) in
      Quiet-trans ring old effects last s (Quiet-trans ring effects next last (quiet_offers link campaign range taken effects) (quiet_proposing n link next (turn_of ring next) (quiet_turn next)))

  pub quiet_proposes : (link : Link) (effects : Effects) → Quiet ring effects (proposes_after ring link effects)
  unfolding proposes_after
  quiet_proposes link effects = quiet_proposing END link effects (turn_of ring effects) (quiet_turn effects)
