-- What a rule of one ring makes is nothing to another ring: its changes and its frames are of its own ring. Here the acceptor's
-- rules and proposing.
use Rattle.std.proofs.Common.{◌≡◌, ℕ, zero, suc, ◌-◌, Bool, true, false, List, [], ◌∷◌, length, Option, Some, None, refl, sym, ◌∙◌, ap, arith}
use Rattle.std.specs.Prelude.{◌==◌, nat_eq, nat_lt, nat_le, not, if◌then◌else◌, count_ones, ◌||◌}
use Rattle.std.specs.List.{AllByRecursion}
use Rattle.std.proofs.lemmas.Bool.Decides.{nat_tests}
use Rattle.mrp_types.specs.declared.id.NodeId.{NodeId}
use Rattle.mrp_types.specs.declared.id.RingId.{RingId}
use Rattle.mrp_types.specs.declared.id.TheConstants.{END}
use Rattle.mrp_types.specs.declared.id.Party.{Party}
use Rattle.mrp_types.specs.declared.id.Party.TheVariants.{Node, Client}
use Rattle.mrp_types.specs.declared.value.Value.{Value}
use Rattle.mrp_types.specs.declared.voted.Voted.{Voted}
use Rattle.mrp_types.specs.declared.voted.Decided.{Decided}
use Rattle.vote_state.specs.declared.ring.RingState.{RingState}
use Rattle.vote_state.specs.declared.change.Change.{Change}
use Rattle.vote_state.specs.declared.change.Change.TheVariants.{Epoch, Promise, Vote, Trim}
use Rattle.vote_state.specs.Ranges.{are_held}
use Rattle.vote_state.specs.State.{with_vote}
use Rattle.ring_link.specs.Silence.{Link}
use Rattle.frames.specs.declared.body.Body.{Body}
use Rattle.frames.specs.declared.body.Body.TheVariants as body
use Rattle.frames.specs.declared.sent.Sent.{Sent}
use Rattle.protocol.specs.Parts.{Ring, Campaign, Part, Effects, Role, Idle, Active}
use Rattle.protocol.specs.Rings.{is_node, owner_of, position_of, majority_of, has_bit, with_bit, next_acceptor, next_member, sends, is_beyond}
use Rattle.protocol.specs.Effects.{no_effects, with_part, with_change, with_frames, with_kept, with_campaign}
use Rattle.protocol.specs.Learner.{decided_of}
use Rattle.protocol.specs.Acceptor.{promised_part, promises, votes_for, promises_anew, votes_anew, promise_of, tells_promise, refuses, tells_trim, prepares, first_decide, decides, decides_or_forwards, accepts_at, accepts}
use Rattle.protocol.specs.Proposing.{own_mask, after_offer, vote_of, offers, Turn, Stops, Proposes, Choice, Rests, Offers, choice, advanced, turn_by, turn_in, turn_of, proposing, proposes_after}
use Rattle.protocol.specs.Lines.{Line, Learn}
use Rattle.ring_rules.specs.Own.{IsChangeOf, IsBodyOf, IsSentOf, IsOf}
use Rattle.beside_rings.specs.Beside.{IsNoLearn}
use Rattle.ring_safety.specs.Faces.{Face}
use Rattle.ring_kept.specs.Kept.{kept_by, kept_after}
use Rattle.ring_tables.specs.Ties.{SaidBy, IsSaid, IsTold, IsRecorded}
use Rattle.quorums.proofs.Each.{mapped, appended}

-- ---- what another ring sees of it

kept_apart : (id other : RingId) → (id.0 ≡ other.0 → ⊥) → (c : Change) → IsChangeOf id c → (kept : RingState) → kept_by other c kept ≡ kept
kept_apart id other ne (Epoch epoch) is kept = absurd is
kept_apart id other ne (Promise r ballot) is kept = let e : nat_eq r.0 other.0 ≡ false = grind (arith, nat_tests) in rw e refl
kept_apart id other ne (Vote r v) is kept = let e : nat_eq r.0 other.0 ≡ false = grind (arith, nat_tests) in rw e refl
kept_apart id other ne (Trim r inst) is kept = let e : nat_eq r.0 other.0 ≡ false = grind (arith, nat_tests) in rw e refl

pub changes_apart : (id other : RingId) → (id.0 ≡ other.0 → ⊥) → (cs : List Change) → AllByRecursion (IsChangeOf id) cs → (kept : RingState) → kept_after other cs kept ≡ kept
changes_apart id other ne [] all kept = refl
changes_apart id other ne (c ∷ cs) all kept = ap (λ k. kept_after other cs k) (kept_apart id other ne c all.0 kept) ∙ changes_apart id other ne cs all.1 kept

record_apart : (id : RingId) (other : Ring) → (id.0 ≡ other.id.0 → ⊥) → (f : Face Value) (c : Change) → IsChangeOf id c → IsRecorded other.id f c
record_apart id other ne f (Epoch epoch) is = absurd is
record_apart id other ne f (Promise r ballot) is = λ e. absurd (ne (sym is ∙ e))
record_apart id other ne f (Vote r v) is = λ e. absurd (ne (sym is ∙ e))
record_apart id other ne f (Trim r inst) is = λ e. absurd (ne (sym is ∙ e))

pub records_apart : (id : RingId) (other : Ring) → (id.0 ≡ other.id.0 → ⊥) → (f : Face Value) (cs : List Change) → AllByRecursion (IsChangeOf id) cs → AllByRecursion (IsRecorded other.id f) cs
records_apart id other ne f cs all = mapped (IsChangeOf id) (IsRecorded other.id f) (record_apart id other ne f) cs all

body_apart : (id : RingId) (other : Ring) → (id.0 ≡ other.id.0 → ⊥) → (now : ℕ → Face Value) (from : Party) (b : Body) → IsBodyOf id b → SaidBy other now from b
body_apart id other ne now (Client from) b is = tt
body_apart id other ne now (Node from) (body.Promise r ballot lo hi trim votes) is = λ e. absurd (ne (sym is ∙ e))
body_apart id other ne now (Node from) (body.Accept r ballot lo hi mask value) is = λ e. absurd (ne (sym is ∙ e))
body_apart id other ne now (Node from) (body.Decide r lo hi left value) is = λ e. absurd (ne (sym is ∙ e))
body_apart id other ne now (Node from) (body.Chosen r ranges) is = λ e. absurd (ne (sym is ∙ e))
body_apart id other ne now (Node from) more is = tt

pub frames_apart : (id : RingId) (other : Ring) → (id.0 ≡ other.id.0 → ⊥) → (now : ℕ → Face Value) (frames : List Sent) → AllByRecursion (IsSentOf id) frames → AllByRecursion (IsSaid other now) frames
frames_apart id other ne now [] all = tt
frames_apart id other ne now (sent ∷ frames) all = (body_apart id other ne now sent.frame.from sent.frame.body all.0, frames_apart id other ne now frames all.1)

pub lines_told : (ring : Ring) (now : ℕ → Face Value) (line : Line) → IsNoLearn line → IsTold ring now line
lines_told ring now (Learn node r lo hi value) is = absurd is
lines_told ring now other is = tt

pub none_learned : (ring : Ring) (now : ℕ → Face Value) (lines : List Line) → AllByRecursion IsNoLearn lines → AllByRecursion (IsTold ring now) lines
none_learned ring now lines all = mapped IsNoLearn (IsTold ring now) (lines_told ring now) lines all

-- ---- word by word

pub of_sends : (ring : Ring) (to : Option NodeId) (b : Body) → IsBodyOf ring.id b → AllByRecursion (IsSentOf ring.id) (sends ring to b)
of_sends ring None b is = tt
of_sends ring (Some to) b is = go (to.0 == ring.own.0 || is_beyond b)
  where
    go : (t : Bool) → AllByRecursion (IsSentOf ring.id) (if t then [] else (record { to = Node to; frame = record { from = Node ring.own; body = b } }) ∷ [])
    go true = tt
    go false = (is, tt)

module _ (ring : Ring) where
  pub of_none : (part : Part) → IsOf ring (no_effects part)
  of_none part = record { changes = tt; frames = tt; lines = tt }

  pub of_frames : (effects : Effects) (frames : List Sent) → AllByRecursion (IsSentOf ring.id) frames → IsOf ring effects → IsOf ring (with_frames frames effects)
  of_frames effects frames is o = record { changes = o.changes; frames = appended (IsSentOf ring.id) effects.frames frames o.frames is; lines = o.lines }

  pub of_change : (effects : Effects) (c : Change) (part : Part) → IsChangeOf ring.id c → IsOf ring effects → IsOf ring (with_change c part effects)
  of_change effects c part is o = record { changes = appended (IsChangeOf ring.id) effects.changes (c ∷ []) o.changes (is, tt); frames = o.frames; lines = o.lines }

  pub of_promises : (effects : Effects) (ballot : ℕ) → IsOf ring effects → IsOf ring (promises ring ballot effects)
  of_promises effects ballot o = of_change effects (Promise ring.id ballot) (promised_part ballot effects.part) refl o

  of_votes : (effects : Effects) (vote : Voted) → IsOf ring effects → IsOf ring (votes_for ring vote effects)
  of_votes effects vote o = of_change effects (Vote ring.id vote) (with_kept (with_vote vote effects.part.kept) effects.part) refl o

  of_promises_anew : (effects : Effects) (ballot : ℕ) → IsOf ring effects → IsOf ring (promises_anew ring ballot effects)
  of_promises_anew effects ballot o = go (ballot == effects.part.kept.promise)
    where
      go : (b : Bool) → IsOf ring (if b then effects else promises ring ballot effects)
      go true = o
      go false = of_promises effects ballot o

  of_votes_anew : (effects : Effects) (vote : Voted) → IsOf ring effects → IsOf ring (votes_anew ring vote effects)
  of_votes_anew effects vote o = go (are_held vote effects.part.kept.votes)
    where
      go : (b : Bool) → IsOf ring (if b then effects else votes_for ring vote effects)
      go true = o
      go false = of_votes effects vote o

  of_decides_or_forwards : (effects : Effects) (link : Link) (mask : ℕ) (vote : Voted) → IsOf ring effects → IsOf ring (decides_or_forwards ring link mask vote effects)
  of_decides_or_forwards effects link mask vote o = go (nat_le (majority_of ring) (count_ones mask))
    where
      first : (b : Bool) → AllByRecursion (IsSentOf ring.id) (if b then sends ring (next_member ring link) (body.Decide ring.id vote.lo vote.hi (length ring.members - 2) vote.value) else [])
      first true = of_sends ring (next_member ring link) (body.Decide ring.id vote.lo vote.hi (length ring.members - 2) vote.value) refl
      first false = tt

      go : (b : Bool) → IsOf ring (if b then decides ring link (decided_of vote) effects
          else with_frames (sends ring (next_acceptor ring link) (body.Accept ring.id vote.ballot vote.lo vote.hi mask vote.value)) effects)
      go true =
          let f = of_frames effects (first_decide ring link (decided_of vote)) (first (nat_le 2 (length ring.members))) o in
          record { changes = f.changes; frames = f.frames; lines = f.lines }
      go false = of_frames effects _ (of_sends ring (next_acceptor ring link) (body.Accept ring.id vote.ballot vote.lo vote.hi mask vote.value) refl) o

  pub of_prepares : (part : Part) (from : NodeId) (ballot lo : ℕ) → IsOf ring (prepares ring part from ballot lo)
  unfolding prepares
  of_prepares part from ballot lo = go (not (is_node from (owner_of ring ballot))) (nat_lt ballot part.kept.promise)
    where
      told : Effects
      told = promises ring ballot (no_effects part)

      go : (b c : Bool) → IsOf ring (if b then no_effects part else if c then refuses ring (Some from) ballot part
          else tells_promise ring from ballot lo (promises ring ballot (no_effects part)))
      go true c = of_none part
      go false true = of_frames (no_effects part) _ (of_sends ring (Some from) (body.Refuse ring.id ballot part.kept.promise) tt) (of_none part)
      go false false =
          of_frames (promises ring ballot (no_effects part)) (sends ring (Some from) (promise_of ring ballot lo (promises ring ballot (no_effects part)).part.kept))
          (of_sends ring (Some from) (promise_of ring ballot lo (promises ring ballot (no_effects part)).part.kept) refl) (of_promises (no_effects part) ballot (of_none part))

  pub of_accepts : (link : Link) (part : Part) (ballot lo hi mask : ℕ) (value : Value) → IsOf ring (accepts ring link part ballot lo hi mask value)
  unfolding accepts
  of_accepts link part ballot lo hi mask value = at (position_of ring ring.own)
    where
      at : (o : Option ℕ) → IsOf ring (accepts_at ring link part mask (record { lo = lo; hi = hi; ballot = ballot; value = value }) o)
      at None = of_none part
      at (Some position) = go (nat_lt ballot part.kept.promise) (nat_lt lo part.kept.trim) (has_bit mask position)
        where
          go : (b c d : Bool) → IsOf ring (if b then refuses ring (owner_of ring ballot) ballot part else if c then tells_trim ring (owner_of ring ballot) part
              else if d then no_effects part
              else decides_or_forwards ring link (with_bit mask position) (record { lo = lo; hi = hi; ballot = ballot; value = value })
              (votes_anew ring (record { lo = lo; hi = hi; ballot = ballot; value = value }) (promises_anew ring ballot (no_effects part))))
          go true c d = of_frames (no_effects part) _ (of_sends ring (owner_of ring ballot) (body.Refuse ring.id ballot part.kept.promise) tt) (of_none part)
          go false true d = of_frames (no_effects part) _ (of_sends ring (owner_of ring ballot) (body.Trimmed ring.id part.kept.trim) tt) (of_none part)
          go false false true = of_none part
          go false false false =
              of_decides_or_forwards (votes_anew ring (record { lo = lo; hi = hi; ballot = ballot; value = value }) (promises_anew ring ballot (no_effects part))) link (with_bit mask position)
              (record { lo = lo; hi = hi; ballot = ballot; value = value })
              (of_votes_anew (promises_anew ring ballot (no_effects part)) (record { lo = lo; hi = hi; ballot = ballot; value = value }) (of_promises_anew (no_effects part) ballot (of_none part)))

  pub of_offers : (effects : Effects) (link : Link) (campaign : Campaign) (range : Decided) (taken : ℕ) → IsOf ring effects → IsOf ring (offers ring link campaign range taken effects)
  unfolding offers
  of_offers effects link campaign range taken o =
      of_decides_or_forwards (votes_for ring (vote_of campaign.ballot range) (with_part (with_campaign (after_offer ring range taken campaign) effects.part) effects)) link (own_mask ring) (vote_of campaign.ballot range)
      (of_votes (with_part (with_campaign (after_offer ring range taken campaign) effects.part) effects) (vote_of campaign.ballot range) (record { changes = o.changes; frames = o.frames; lines = o.lines }))

  abbrev TurnOf : Turn → Type 0
  TurnOf (Stops effects) = IsOf ring effects
  TurnOf (Proposes campaign range taken effects) = IsOf ring effects

  of_turn : (effects : Effects) → IsOf ring effects → TurnOf (turn_of ring effects)
  of_turn effects o = by_role effects.part.coordinator.role
    where
      by_choice : (campaign : Campaign) (c : Choice) → TurnOf (turn_by effects campaign c)
      by_choice campaign Rests = record { changes = o.changes; frames = o.frames; lines = o.lines }
      by_choice campaign (Offers range taken) = o

      by_role : (role : Role) → TurnOf (turn_in ring effects role)
      by_role Idle = o
      by_role (Active campaign) = by_choice (advanced effects.part campaign) (choice ring (advanced effects.part campaign) effects.part.learner.held)

  of_proposing : (count : ℕ) (link : Link) (turn : Turn) → TurnOf turn → IsOf ring (proposing count ring link turn)
  unfolding proposing
  of_proposing zero link (Stops effects) o = o
  of_proposing zero link (Proposes campaign range taken effects) o = o
  of_proposing (suc count) link (Stops effects) o = o
  of_proposing (suc count) link (Proposes campaign range taken effects) o =
      of_proposing count link (turn_of ring (offers ring link campaign range taken effects)) (of_turn (offers ring link campaign range taken effects) (of_offers effects link campaign range taken o))

  pub of_proposes_after : (effects : Effects) (link : Link) → IsOf ring effects → IsOf ring (proposes_after ring link effects)
  unfolding proposes_after
  of_proposes_after effects link o = of_proposing END link (turn_of ring effects) (of_turn effects o)
