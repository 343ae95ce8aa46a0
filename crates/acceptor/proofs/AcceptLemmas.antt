-- The row of Accept, case by case.
use Rattle.std.proofs.Common.{◌≡◌, ℕ, zero, suc, ◌-◌, ◌<◌, ◌≤◌, true, false, Bool, List, [], ◌++◌, refl, sym, ◌∙◌, ap, arith, append_assoc}
use Rattle.std.specs.Prelude.{◌==◌, bit_and, bit_or, if◌then◌else◌, option_map, Option, Some, None}
use Rattle.std.proofs.lemmas.List.{append-nil}
use Rattle.mrp_types.specs.declared.value.Value.{Value}
use Rattle.mrp_types.specs.declared.voted.Voted.{Voted}
use Rattle.mrp_types.specs.declared.voted.Decided.{Decided}
use Rattle.mrp_types.specs.declared.members.RingView.{RingView}
use Rattle.range_map.specs.Entries.{value_at, entries_from}
use Rattle.range_map.proofs.SetLemmas.{le-true}
use Rattle.range_map.proofs.EntryLemmas.{value_at-entries_from, eq-true, eq-false}
use Rattle.vote_state.specs.declared.cast.Cast.{Cast}
use Rattle.vote_state.specs.declared.change.Change.{Change}
use Rattle.vote_state.specs.Ranges.{cast_of, each_held, are_held}
use Rattle.vote_state.specs.State.{State, trim_at, votes_at, has_vote}
use Rattle.ring_link.specs.Silence.{Link}
use Rattle.frames.specs.declared.sent.Sent.{Sent}
use Rattle.protocol.specs.Parts.{Ring, Part, Effects}
use Rattle.protocol.specs.Rings.{owner_of, bit_of, position_of}
use Rattle.protocol.specs.Effects.{no_effects}
use Rattle.protocol.specs.Acceptor.{promises, votes_for, promises_anew, votes_anew, refuses, tells_trim, decides_or_forwards, accepts_at, accepts}
use Rattle.ring_view.specs.Kept.{OnlyRaises}
use Rattle.ring_view.specs.Views.{Shows, Adds}
use Rattle.ring_view.proofs.ViewLemmas.{shown_votes, onward_changes, onward_frames, onward_learned}
use Rattle.acceptor.proofs.PrepareLemmas.{lt-true, lt-false}

-- ---- votes that are held

-- of a range that begins late enough what is held early doesn't count
each_later : (from lo n : ℕ) (cast : Cast) (votes : List (ℕ × Cast)) → from ≤ lo → each_held lo n cast (entries_from from votes) ≡ each_held lo n cast votes
each_later from lo zero cast votes h = refl
each_later from lo (suc n) cast votes h =
    let here : value_at lo (entries_from from votes) ≡ value_at lo votes = value_at-entries_from from votes lo ∙ rw (le-true from lo h) refl in
    rw (here, each_later from (suc lo) n cast votes (omega arith)) refl

held_later : (from : ℕ) (vote : Voted) (votes : List (ℕ × Cast)) → from ≤ vote.lo → are_held vote (entries_from from votes) ≡ are_held vote votes
unfolding are_held
held_later from vote votes h = each_later from vote.lo (vote.hi - vote.lo) (cast_of vote) votes h

pub same_held : (view : RingView) (durable : State) (cs : List Change) (ring : Ring) (link : Link) (part : Part) → Shows view durable cs ring link part → OnlyRaises ring.id (trim_at durable ring.id) cs
    → (vote : Voted) → part.kept.trim ≤ vote.lo → are_held vote part.kept.votes ≡ has_vote durable view.ring vote
same_held view durable cs ring link part shows only vote up =
    sym (held_later vote.lo vote part.kept.votes (omega arith))
    ∙ ap (λ (votes : List (ℕ × Cast)). are_held vote votes) (shown_votes view durable cs ring link part shows vote.lo only up)
    ∙ held_later vote.lo vote (votes_at durable view.ring) (omega arith)

-- ---- what a vote records

module _ (ring : Ring) (part : Part) (ballot : ℕ) (vote : Voted) where
  abbrev promised : Effects
  promised = promises_anew ring ballot (no_effects part)

  -- promising leaves the votes and sends nothing
  by_promise : (P : Effects → Type 0) → P (no_effects part) → P (promises ring ballot (no_effects part)) → P promised
  by_promise P same anew = by (ballot == part.kept.promise)
    where
      by : (b : Bool) → P (if b then no_effects part else promises ring ballot (no_effects part))
      by true = same
      by false = anew

  by_vote : (P : Effects → Type 0) (effects : Effects) → P effects → P (votes_for ring vote effects) → P (votes_anew ring vote effects)
  by_vote P effects same anew = by (are_held vote effects.part.kept.votes)
    where
      by : (b : Bool) → P (if b then effects else votes_for ring vote effects)
      by true = same
      by false = anew

  same_votes : promised.part.kept.votes ≡ part.kept.votes
  same_votes = by_promise (λ e. e.part.kept.votes ≡ part.kept.votes) refl refl

  vote_recorded : (effects : Effects) → effects.part.kept.votes ≡ part.kept.votes → (votes_anew ring vote effects).changes ≡ effects.changes ++ (votes_anew ring vote (no_effects part)).changes
  vote_recorded effects same =
      ap (λ (votes : List (ℕ × Cast)). (if are_held vote votes then effects else votes_for ring vote effects).changes) same ∙ by (are_held vote part.kept.votes)
    where
      by : (b : Bool) → (if b then effects else votes_for ring vote effects).changes ≡ effects.changes ++ (if b then no_effects part else votes_for ring vote (no_effects part)).changes
      by true = sym (append-nil effects.changes)
      by false = refl

  no_frames : (votes_anew ring vote promised).frames ≡ []
  no_frames = by_vote (λ e. e.frames ≡ []) promised first first
    where
      first : promised.frames ≡ []
      first = by_promise (λ e. e.frames ≡ []) refl refl

  none_learned : (votes_anew ring vote promised).learned ≡ []
  none_learned = by_vote (λ e. e.learned ≡ []) promised first first
    where
      first : promised.learned ≡ []
      first = by_promise (λ e. e.learned ≡ []) refl refl

  both_recorded : (votes_anew ring vote promised).changes ≡ promised.changes ++ (votes_anew ring vote (no_effects part)).changes
  both_recorded = vote_recorded promised same_votes

-- ---- the cases

module _ (ring : Ring) (link : Link) (part : Part) (mask : ℕ) (vote : Voted) (bit : ℕ) where
  abbrev row : Option ℕ → Effects
  row position = accepts_at ring link part mask vote position

  abbrev voted : Effects
  voted = votes_anew ring vote (promises_anew ring vote.ballot (no_effects part))

  no_seat : (position : Option ℕ) → None ≡ option_map bit_of position → row position ≡ no_effects part
  no_seat None h = refl
  no_seat (Some p) h = absurd (cc)

  refused : (position : Option ℕ) → Some bit ≡ option_map bit_of position → vote.ballot < part.kept.promise → row position ≡ refuses ring (owner_of ring vote.ballot) vote.ballot part
  refused None h below = absurd (cc)
  refused (Some p) h below = rw (lt-true vote.ballot part.kept.promise below) refl

  trimmed : (position : Option ℕ) → Some bit ≡ option_map bit_of position → part.kept.promise ≤ vote.ballot → vote.lo < part.kept.trim → row position ≡ tells_trim ring (owner_of ring vote.ballot) part
  trimmed None h up below = absurd (cc)
  trimmed (Some p) h up below = rw (lt-false vote.ballot part.kept.promise up, lt-true vote.lo part.kept.trim below) refl

  seen : (position : Option ℕ) → Some bit ≡ option_map bit_of position → part.kept.promise ≤ vote.ballot → part.kept.trim ≤ vote.lo → (bit_and mask bit ≡ 0 → ⊥) → row position ≡ no_effects part
  seen None h up above there = absurd (cc)
  seen (Some p) h up above there =
      let same : bit ≡ bit_of p = cc in
      let test : (bit_and mask (bit_of p) == 0) ≡ false = eq-false (bit_and mask (bit_of p)) 0 (λ z. there (ap (λ (b : ℕ). bit_and mask b) same ∙ z)) in
      rw (lt-false vote.ballot part.kept.promise up, lt-false vote.lo part.kept.trim above, test) refl

  anew : (position : Option ℕ) → Some bit ≡ option_map bit_of position → part.kept.promise ≤ vote.ballot → part.kept.trim ≤ vote.lo → bit_and mask bit ≡ 0
      → row position ≡ decides_or_forwards ring link (bit_or mask bit) vote voted
  anew None h up above not_there = absurd (cc)
  anew (Some p) h up above not_there =
      let same : bit ≡ bit_of p = cc in
      let test : (bit_and mask (bit_of p) == 0) ≡ true = eq-true (bit_and mask (bit_of p)) 0 (ap (λ (b : ℕ). bit_and mask b) (sym same) ∙ not_there) in
      rw (lt-false vote.ballot part.kept.promise up, lt-false vote.lo part.kept.trim above, test) (ap (λ (b : ℕ). decides_or_forwards ring link (bit_or mask b) vote voted) (sym same))

module _ (ring : Ring) (link : Link) (part : Part) (ballot lo hi mask : ℕ) (value : Value) where
  abbrev asked : Voted
  asked = record { lo = lo; hi = hi; ballot = ballot; value = value }

  abbrev seat : Option ℕ
  seat = position_of ring ring.own

  pub accept_unseated : None ≡ option_map bit_of (position_of ring ring.own) → accepts ring link part ballot lo hi mask value ≡ no_effects part
  unfolding accepts
  accept_unseated h = no_seat ring link part mask asked 0 seat h

  module _ (bit : ℕ) (seated : Some bit ≡ option_map bit_of (position_of ring ring.own)) where
    pub accept_refused : ballot < part.kept.promise → accepts ring link part ballot lo hi mask value ≡ refuses ring (owner_of ring ballot) ballot part
    unfolding accepts
    accept_refused below = refused ring link part mask asked bit seat seated below

    pub accept_trimmed : part.kept.promise ≤ ballot → lo < part.kept.trim → accepts ring link part ballot lo hi mask value ≡ tells_trim ring (owner_of ring ballot) part
    unfolding accepts
    accept_trimmed up below = trimmed ring link part mask asked bit seat seated up below

    pub accept_seen : part.kept.promise ≤ ballot → part.kept.trim ≤ lo → (bit_and mask bit ≡ 0 → ⊥) → accepts ring link part ballot lo hi mask value ≡ no_effects part
    unfolding accepts
    accept_seen up above there = seen ring link part mask asked bit seat seated up above there

    pub accept_anew : part.kept.promise ≤ ballot → part.kept.trim ≤ lo → bit_and mask bit ≡ 0
        → accepts ring link part ballot lo hi mask value ≡ decides_or_forwards ring link (bit_or mask bit) asked (voted ring link part mask asked bit)
    unfolding accepts
    accept_anew up above not_there = anew ring link part mask asked bit seat seated up above not_there

-- ---- what the calls added

-- a frame alone
pub adds_frames : (row effects : Effects) (old : List Change) (out new_out : List Sent) → row ≡ effects → effects.changes ≡ [] → new_out ≡ out ++ effects.frames → Adds row old old out new_out
adds_frames row effects old out new_out is none sent = record {
  changes = sym (append-nil old) ∙ ap (λ (cs : List Change). old ++ cs) (sym (ap (λ (e : Effects). e.changes) is ∙ none));
  frames = sent ∙ ap (λ (e : Effects). out ++ e.frames) (sym is);
}

module _ (row : Effects) (ring : Ring) (link : Link) (part : Part) (mask bit : ℕ) (vote : Voted) (is : row ≡ decides_or_forwards ring link (bit_or mask bit) vote (voted ring link part mask vote bit)) where
  abbrev made : Effects
  made = votes_anew ring vote (promises_anew ring vote.ballot (no_effects part))

  pub adds_anew : (old first new : List Change) (out new_out : List Sent) → first ≡ old ++ (promises_anew ring vote.ballot (no_effects part)).changes → new ≡ first ++ (votes_anew ring vote (no_effects part)).changes
      → new_out ≡ out ++ (decides_or_forwards ring link (bit_or mask bit) vote (no_effects part)).frames → Adds row old new out new_out
  adds_anew old first new out new_out promise_is vote_is sent = record {
    changes = vote_is ∙ ap (λ (cs : List Change). cs ++ (votes_anew ring vote (no_effects part)).changes) promise_is
        ∙ append_assoc old (promises_anew ring vote.ballot (no_effects part)).changes (votes_anew ring vote (no_effects part)).changes
        ∙ ap (λ (cs : List Change). old ++ cs) (sym (both_recorded ring part vote.ballot vote))
        ∙ ap (λ (cs : List Change). old ++ cs) (sym (ap (λ (e : Effects). e.changes) is ∙ onward_changes ring link (bit_or mask bit) vote made part));
    frames = sent
        ∙ ap (λ (fs : List Sent). out ++ fs) (sym (ap (λ (e : Effects). e.frames) is ∙ onward_frames ring link (bit_or mask bit) vote made part
        ∙ ap (λ (fs : List Sent). fs ++ (decides_or_forwards ring link (bit_or mask bit) vote (no_effects part)).frames) (no_frames ring part vote.ballot vote)));
  }

  pub decided_anew : (learned : List Decided) → (decides_or_forwards ring link (bit_or mask bit) vote (no_effects part)).learned ≡ learned → row.learned ≡ learned
  decided_anew learned told =
      ap (λ (e : Effects). e.learned) is ∙ onward_learned ring link (bit_or mask bit) vote made part
      ∙ ap (λ (ds : List Decided). ds ++ (decides_or_forwards ring link (bit_or mask bit) vote (no_effects part)).learned) (none_learned ring part vote.ballot vote)
      ∙ told
