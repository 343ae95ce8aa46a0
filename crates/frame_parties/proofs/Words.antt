-- The words that a rule of a ring is made of send frames to nodes that are there.
use Rattle.std.proofs.Common.{ℕ, zero, suc, Bool, true, false, List, [], ◌∷◌, Option, Some, None}
use Rattle.std.specs.Prelude.{◌==◌, ◌||◌, ◌%◌, ◌-◌, nat_lt, nat_le, length, count_ones, if◌then◌else◌, not}
use Rattle.mrp_types.specs.declared.id.NodeId.{NodeId}
use Rattle.mrp_types.specs.declared.id.TheConstants.{END}
use Rattle.mrp_types.specs.declared.voted.Voted.{Voted}
use Rattle.mrp_types.specs.declared.voted.Decided.{Decided}
use Rattle.mrp_config.specs.Config.{Config}
use Rattle.vote_state.specs.declared.change.Change.TheVariants as changes
use Rattle.vote_state.specs.Ranges.{are_held}
use Rattle.vote_state.specs.State.{with_trim}
use Rattle.vote_state.proofs.StateLemmas.{filter_all}
use Rattle.ring_link.specs.Silence.{Link, is_silent}
use Rattle.frames.specs.declared.body.Body.{Body}
use Rattle.frames.specs.declared.body.Body.TheVariants.{Accept, Decide}
use Rattle.frames.specs.declared.sent.Sent.{Sent}
use Rattle.protocol.specs.Parts.{Ring, Role, Idle, Active, Campaign, Effects}
use Rattle.protocol.specs.Rings.{is_own, other_acceptors, acceptor_at, owner_of, majority_of, next_acceptor, next_member, is_beyond, sent_by, sends_to, sends, sends_each, with_node, by_id}
use Rattle.protocol.specs.Effects.{with_part, with_frames, with_change, with_kept, with_campaign}
use Rattle.protocol.specs.Acceptor.{promises, votes_for, promises_anew, votes_anew, trims_to, first_decide, decides, decides_or_forwards}
use Rattle.protocol.specs.Learner.{without_finished, decided_of}
use Rattle.protocol.specs.Proposing.{Choice, Rests, Offers, choice, advanced, own_mask, vote_of, after_offer, offers, Turn, Stops, Proposes, turn_by, turn_in, turn_of, proposing, proposes_after}
use Rattle.line_rules.specs.Rules.{HasNode}
use Rattle.quorums.proofs.Each.{appended}
use Rattle.frame_parties.proofs.Invariant.{AreThere, IsAddressed, AreAddressed, RingNamed}
use Rattle.frame_parties.proofs.Lists.{IfThere, get_all, next_all}

-- a frame of a node to a node
pub to_addressed : (c : Config) (own to : NodeId) (b : Body) → HasNode c own → HasNode c to → AreAddressed c (sends_to own to b)
to_addressed c own to b here there = go (to.0 == own.0 || is_beyond b)
  where
    go : (t : Bool) → AreAddressed c (if t then [] else sent_by own to b ∷ [])
    go true = tt
    go false = ((here, there), tt)

-- nodes by id
with_there : (c : Config) (node : NodeId) (nodes : List NodeId) → HasNode c node → AreThere c nodes → AreThere c (with_node node nodes)
with_there c node [] here all = (here, tt)
with_there c node (other ∷ others) here all = go (nat_lt node.0 other.0) (with_there c node others here all.1)
  where
    go : (b : Bool) → AreThere c (with_node node others) → AreThere c (if b then node ∷ other ∷ others else other ∷ with_node node others)
    go true later = (here, all)
    go false later = (all.0, later)

pub by_id_there : (c : Config) (nodes : List NodeId) → AreThere c nodes → AreThere c (by_id nodes)
by_id_there c [] all = tt
by_id_there c (node ∷ nodes) all = with_there c node (by_id nodes) all.0 (by_id_there c nodes all.1)

module _ (c : Config) (ring : Ring) (named : RingNamed c ring) where
  pub sends_addressed : (to : Option NodeId) (b : Body) → IfThere (HasNode c) to → AreAddressed c (sends ring to b)
  sends_addressed None b there = tt
  sends_addressed (Some to) b there = to_addressed c ring.own to b named.own there

  pub each_addressed : (nodes : List NodeId) (b : Body) → AreThere c nodes → AreAddressed c (sends_each ring nodes b)
  each_addressed [] b all = tt
  each_addressed (node ∷ nodes) b all = appended (IsAddressed c) (sends ring (Some node) b) (sends_each ring nodes b) (sends_addressed (Some node) b all.0) (each_addressed nodes b all.1)

  -- ---- who is named

  pub others_there : AreThere c (other_acceptors ring)
  others_there = filter_all (HasNode c) (λ (node : NodeId). not (is_own ring node)) ring.acceptors named.acceptors

  pub owner_there : (ballot : ℕ) → IfThere (HasNode c) (owner_of ring ballot)
  owner_there ballot = go (ballot == 0)
    where
      go : (b : Bool) → IfThere (HasNode c) (if b then None else acceptor_at ring (ballot % length ring.acceptors))
      go true = tt
      go false = get_all (HasNode c) ring.acceptors (ballot % length ring.acceptors) named.acceptors

  pub acceptor_there : (link : Link) → IfThere (HasNode c) (next_acceptor ring link)
  acceptor_there link = next_all (HasNode c) (is_silent link) ring.acceptors ring.own named.acceptors

  pub member_there : (link : Link) → IfThere (HasNode c) (next_member ring link)
  member_there link = next_all (HasNode c) (is_silent link) ring.members ring.own named.members

  -- ---- what is made

  pub more : (effects : Effects) (frames : List Sent) → AreAddressed c frames → AreAddressed c effects.frames → AreAddressed c (with_frames frames effects).frames
  more effects frames new old = appended (IsAddressed c) effects.frames frames old new

  pub if_so : (b : Bool) (x y : Effects) → AreAddressed c x.frames → AreAddressed c y.frames → AreAddressed c (if b then x else y).frames
  if_so true x y p q = p
  if_so false x y p q = q

  pub promises_addressed : (effects : Effects) (ballot : ℕ) → AreAddressed c effects.frames → AreAddressed c (promises_anew ring ballot effects).frames
  promises_addressed effects ballot s = if_so (ballot == effects.part.kept.promise) effects (promises ring ballot effects) s s

  pub votes_addressed : (effects : Effects) (vote : Voted) → AreAddressed c effects.frames → AreAddressed c (votes_anew ring vote effects).frames
  votes_addressed effects vote s = if_so (are_held vote effects.part.kept.votes) effects (votes_for ring vote effects) s s

  pub trims_addressed : (effects : Effects) (trim : ℕ) → AreAddressed c effects.frames → AreAddressed c (trims_to ring trim effects).frames
  trims_addressed effects trim s =
      if_so (nat_le trim effects.part.kept.trim) effects (with_change (changes.Trim ring.id trim) (without_finished (with_kept (with_trim trim effects.part.kept) effects.part)) effects) s s

  pub decides_addressed : (effects : Effects) (link : Link) (mask : ℕ) (vote : Voted) → AreAddressed c effects.frames → AreAddressed c (decides_or_forwards ring link mask vote effects).frames
  decides_addressed effects link mask vote s =
      if_so (nat_le (majority_of ring) (count_ones mask)) (decides ring link (decided_of vote) effects)
      (with_frames (sends ring (next_acceptor ring link) (Accept ring.id vote.ballot vote.lo vote.hi mask vote.value)) effects)
      (more effects (first_decide ring link (decided_of vote)) (first (nat_le 2 (length ring.members))) s)
      (more effects (sends ring (next_acceptor ring link) (Accept ring.id vote.ballot vote.lo vote.hi mask vote.value))
      (sends_addressed (next_acceptor ring link) (Accept ring.id vote.ballot vote.lo vote.hi mask vote.value) (acceptor_there link)) s)
    where
      first : (b : Bool) → AreAddressed c (if b then sends ring (next_member ring link) (Decide ring.id vote.lo vote.hi (length ring.members - 2) vote.value) else [])
      first true = sends_addressed (next_member ring link) (Decide ring.id vote.lo vote.hi (length ring.members - 2) vote.value) (member_there link)
      first false = tt

  -- ---- proposing

  pub offers_addressed : (effects : Effects) (link : Link) (campaign : Campaign) (range : Decided) (taken : ℕ) → AreAddressed c effects.frames → AreAddressed c (offers ring link campaign range taken effects).frames
  unfolding offers
  offers_addressed effects link campaign range taken s =
      decides_addressed (votes_for ring (vote_of campaign.ballot range) (with_part (with_campaign (after_offer ring range taken campaign) effects.part) effects)) link (own_mask ring) (vote_of campaign.ballot range) s

  abbrev TurnAddressed : Turn → Type 0
  TurnAddressed (Stops effects) = AreAddressed c effects.frames
  TurnAddressed (Proposes campaign range taken effects) = AreAddressed c effects.frames

  turn_addressed : (effects : Effects) → AreAddressed c effects.frames → TurnAddressed (turn_of ring effects)
  turn_addressed effects s = by_role effects.part.coordinator.role
    where
      by_choice : (campaign : Campaign) (ch : Choice) → TurnAddressed (turn_by effects campaign ch)
      by_choice campaign Rests = s
      by_choice campaign (Offers range taken) = s

      by_role : (role : Role) → TurnAddressed (turn_in ring effects role)
      by_role Idle = s
      by_role (Active campaign) = by_choice (advanced effects.part campaign) (choice ring (advanced effects.part campaign) effects.part.learner.held)

  proposing_addressed : (n : ℕ) (link : Link) (turn : Turn) → TurnAddressed turn → AreAddressed c (proposing n ring link turn).frames
  unfolding proposing
  proposing_addressed zero link (Stops effects) s = s
  proposing_addressed zero link (Proposes campaign range taken effects) s = s
  proposing_addressed (suc n) link (Stops effects) s = s
  proposing_addressed (suc n) link (Proposes campaign range taken effects) s =
      let next : Effects = offers ring link campaign range taken effects in
      proposing_addressed n link (turn_of ring next) (turn_addressed next (offers_addressed effects link campaign range taken s))

  pub proposes_addressed : (effects : Effects) (link : Link) → AreAddressed c effects.frames → AreAddressed c (proposes_after ring link effects).frames
  unfolding proposes_after
  proposes_addressed effects link s = proposing_addressed END link (turn_of ring effects) (turn_addressed effects s)
