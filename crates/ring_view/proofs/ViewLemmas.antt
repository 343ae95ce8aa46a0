-- What a view says of its ring.
use Rattle.std.proofs.Common.{◌≡◌, ℕ, ◌-◌, ◌<◌, ◌≤◌, true, false, Bool, List, [], ◌∷◌, ◌++◌, length, refl, sym, ◌∙◌, ap, subst, arith}
use Rattle.std.specs.Prelude.{◌==◌, ◌||◌, ◌%◌, nat_le, count_ones, if◌then◌else◌, Option, Some, None, option_map, slice_get}
use Rattle.std.proofs.lemmas.List.{append-nil}
use Rattle.mrp_types.specs.declared.id.NodeId.{NodeId}
use Rattle.mrp_types.specs.declared.id.RingId.{RingId}
use Rattle.mrp_types.specs.Seats.{seat_of}
use Rattle.mrp_types.specs.declared.members.RingView.{RingView}
use Rattle.mrp_types.specs.declared.voted.Voted.{Voted}
use Rattle.mrp_types.specs.declared.voted.Decided.{Decided}
use Rattle.range_map.proofs.SetLemmas.{le-true, le-false}
use Rattle.ring_link.specs.Silence.{Link}
use Rattle.frames.specs.declared.body.Body.{Body}
use Rattle.frames.specs.declared.body.Body.TheVariants.{Accept, Decide}
use Rattle.frames.specs.declared.sent.Sent.{Sent}
use Rattle.protocol.specs.Parts.{Ring, Part, Effects}
use Rattle.protocol.specs.Rings.{owner_of, position_of, bit_of, majority_of, next_acceptor, is_beyond, sent_by, sends}
use Rattle.protocol.specs.Effects.{no_effects, with_frames}
use Rattle.protocol.specs.Learner.{decided_of}
use Rattle.protocol.specs.Acceptor.{first_decide, decides, decides_or_forwards}
use Rattle.vote_state.specs.declared.change.Change.{Change}
use Rattle.vote_state.specs.declared.ring.RingState.{RingState}
use Rattle.vote_state.specs.State.{State, ring_at, promise_at, trim_at, votes_at, promise_after, trim_after}
use Rattle.range_map.specs.Entries.{entries_from}
use Rattle.ring_view.specs.Kept.{OnlyRaises}
use Rattle.ring_view.specs.Views.{IsViewOf, Shows, Adds, where_decided}
use Rattle.ring_view.proofs.KeptLemmas.{promise_left, trim_left, votes_left}
use Rattle.range_map.proofs.EntryLemmas.{eq-true, eq-false}

module _ (view : RingView) (ring : Ring) (link : Link) (is : IsViewOf view ring link) where
  -- ---- frames

  pub unsent : (to : NodeId) (body : Body) → (to.0 == view.own.0 || is_beyond body) ≡ true → sends ring (Some to) body ≡ []
  unsent to body h =
      let same : (to.0 == ring.own.0 || is_beyond body) ≡ true = subst (λ (own : NodeId). (to.0 == own.0 || is_beyond body) ≡ true) is.own h in
      rw same refl

  pub one_sent : (to : NodeId) (body : Body) → (to.0 == view.own.0 || is_beyond body) ≡ false → sends ring (Some to) body ≡ sent_by view.own to body ∷ []
  one_sent to body h =
      let same : (to.0 == ring.own.0 || is_beyond body) ≡ false = subst (λ (own : NodeId). (to.0 == own.0 || is_beyond body) ≡ false) is.own h in
      rw same (ap (λ (own : NodeId). sent_by own to body ∷ []) (sym is.own))

  -- ---- the own position

  pub own_bit_of : (position : Option ℕ) → position ≡ seat_of view.own view.acceptors → option_map bit_of position ≡ option_map bit_of (position_of ring ring.own)
  own_bit_of position h =
      ap (λ (p : Option ℕ). option_map bit_of p) (h ∙ ap (λ (own : NodeId). seat_of own view.acceptors) is.own ∙ ap (λ (nodes : List NodeId). seat_of ring.own nodes) is.acceptors)

  -- ---- owners

  pub nobody_owns : (ballot : ℕ) → ballot ≡ 0 → None ≡ owner_of ring ballot
  nobody_owns ballot h = rw (eq-true ballot 0 h) refl

  no_seat : (nodes : List NodeId) (i : ℕ) → length nodes ≡ 0 → slice_get nodes i ≡ None
  no_seat [] i h = refl
  no_seat (n ∷ nodes) i h = absurd (omega arith)

  pub none_to_own : (ballot : ℕ) → (ballot ≡ 0 → ⊥) → length view.acceptors ≡ 0 → None ≡ owner_of ring ballot
  none_to_own ballot ne h =
      rw (eq-false ballot 0 ne) (sym (no_seat ring.acceptors (ballot % length ring.acceptors) (ap (λ (l : List NodeId). length l) (sym is.acceptors) ∙ h)))

  pub seat_owns : (ballot : ℕ) → (ballot ≡ 0 → ⊥) → slice_get view.acceptors (ballot % length view.acceptors) ≡ owner_of ring ballot
  seat_owns ballot ne = rw (eq-false ballot 0 ne) (ap (λ (l : List NodeId). slice_get l (ballot % length l)) is.acceptors)

  -- ---- what is decided

  pub told_nobody : (range : Decided) → view.members < 2 → first_decide ring link range ≡ []
  told_nobody range h = let few = is.members in rw (le-false 2 (length ring.members) (omega arith)) refl

  pub told_next : (range : Decided) → 2 ≤ view.members
      → sends ring view.next_member (Decide view.ring range.lo range.hi (view.members - 2) range.value) ≡ first_decide ring link range
  told_next range h =
      let all = is.members in
      rw (le-true 2 (length ring.members) (omega arith), is.to_member, is.id, all) refl

  -- ---- votes that go on

  module _ (vote : Voted) (mask : ℕ) (part : Part) where
    pub majority_frames : nat_le (majority_of ring) (count_ones mask) ≡ true
        → (decides_or_forwards ring link mask vote (no_effects part)).frames ≡ first_decide ring link (decided_of vote)
    majority_frames h = rw h refl

    pub majority_learned : nat_le (majority_of ring) (count_ones mask) ≡ true
        → (decides_or_forwards ring link mask vote (no_effects part)).learned ≡ where_decided true (decided_of vote)
    majority_learned h = rw h refl

    pub minority_frames : nat_le (majority_of ring) (count_ones mask) ≡ false
        → (decides_or_forwards ring link mask vote (no_effects part)).frames ≡ sends ring view.next_acceptor (Accept view.ring vote.ballot vote.lo vote.hi mask vote.value)
    minority_frames h = rw (h, is.to_acceptor, is.id) refl

    pub minority_learned : nat_le (majority_of ring) (count_ones mask) ≡ false
        → (decides_or_forwards ring link mask vote (no_effects part)).learned ≡ where_decided false (decided_of vote)
    minority_learned h = rw h refl

-- ---- a vote that goes on adds frames and what is decided, and nothing else

module _ (ring : Ring) (link : Link) (mask : ℕ) (vote : Voted) (effects : Effects) (part : Part) where
  abbrev goes_on : Bool → Effects → Effects
  goes_on b e = if b then decides ring link (decided_of vote) e else with_frames (sends ring (next_acceptor ring link) (Accept ring.id vote.ballot vote.lo vote.hi mask vote.value)) e

  pub onward_changes : (decides_or_forwards ring link mask vote effects).changes ≡ effects.changes
  onward_changes = by (nat_le (majority_of ring) (count_ones mask))
    where
      by : (b : Bool) → (goes_on b effects).changes ≡ effects.changes
      by true = refl
      by false = refl

  pub onward_frames : (decides_or_forwards ring link mask vote effects).frames ≡ effects.frames ++ (decides_or_forwards ring link mask vote (no_effects part)).frames
  onward_frames = by (nat_le (majority_of ring) (count_ones mask))
    where
      by : (b : Bool) → (goes_on b effects).frames ≡ effects.frames ++ (goes_on b (no_effects part)).frames
      by true = refl
      by false = refl

  pub onward_learned : (decides_or_forwards ring link mask vote effects).learned ≡ effects.learned ++ (decides_or_forwards ring link mask vote (no_effects part)).learned
  onward_learned = by (nat_le (majority_of ring) (count_ones mask))
    where
      by : (b : Bool) → (goes_on b effects).learned ≡ effects.learned ++ (goes_on b (no_effects part)).learned
      by true = refl
      by false = sym (append-nil effects.learned)

-- ---- what a part keeps

module _ (view : RingView) (durable : State) (changes : List Change) (ring : Ring) (link : Link) (part : Part) (shows : Shows view durable changes ring link part) where
  pub shown_promise : part.kept.promise ≡ promise_after view.ring changes (promise_at durable view.ring)
  shown_promise =
      ap (λ (r : RingState). r.promise) shows.kept ∙ promise_left ring.id changes (ring_at durable ring.id)
      ∙ ap (λ (id : RingId). promise_after id changes (promise_at durable id)) (sym shows.is_view.id)

  pub shown_trim : part.kept.trim ≡ trim_after view.ring changes (trim_at durable view.ring)
  shown_trim =
      ap (λ (r : RingState). r.trim) shows.kept ∙ trim_left ring.id changes (ring_at durable ring.id)
      ∙ ap (λ (id : RingId). trim_after id changes (trim_at durable id)) (sym shows.is_view.id)

  -- as a call reads them
  pub promise_read : (read : ℕ) (seen : List Change) → seen ≡ changes → read ≡ promise_after view.ring seen (promise_at durable view.ring) → part.kept.promise ≡ read
  promise_read read seen same is = shown_promise ∙ sym (is ∙ ap (λ (cs : List Change). promise_after view.ring cs (promise_at durable view.ring)) same)

  pub trim_read : (read : ℕ) (seen : List Change) → seen ≡ changes → read ≡ trim_after view.ring seen (trim_at durable view.ring) → part.kept.trim ≡ read
  trim_read read seen same is = shown_trim ∙ sym (is ∙ ap (λ (cs : List Change). trim_after view.ring cs (trim_at durable view.ring)) same)

  pub shown_votes : (from : ℕ) → OnlyRaises ring.id (trim_at durable ring.id) changes → part.kept.trim ≤ from → entries_from from part.kept.votes ≡ entries_from from (votes_at durable view.ring)
  shown_votes from only up =
      let trim : part.kept.trim ≡ trim_after ring.id changes (trim_at durable ring.id) = ap (λ (r : RingState). r.trim) shows.kept ∙ trim_left ring.id changes (ring_at durable ring.id) in
      ap (λ (r : RingState). entries_from from r.votes) shows.kept ∙ votes_left ring.id changes (ring_at durable ring.id) from only (omega arith)
      ∙ ap (λ (id : RingId). entries_from from (votes_at durable id)) (sym shows.is_view.id)

-- ---- what was made stands behind what there was

pub adds_nothing : (part : Part) (changes : List Change) (frames : List Sent) → Adds (no_effects part) changes changes frames frames
adds_nothing part changes frames = record { changes = sym (append-nil changes); frames = sym (append-nil frames) }
