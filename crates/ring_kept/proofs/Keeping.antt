-- What changes make of what is kept, and the deeds that make the same of a face.
use Rattle.std.proofs.Common.{◌≡◌, inl, inr, ℕ, ◌-◌, ◌<◌, ◌≤◌, Bool, true, false, cond, nat_eq, nat_lt, List, [], ◌∷◌, ◌++◌, length, Option, Some, None, refl, sym, ◌∙◌, ap, arith}
use Rattle.std.specs.Prelude.{if◌then◌else◌, slice_index_or, slice_set}
use Rattle.std.proofs.lemmas.Bool.{cases_lt, cases_eq}
use Rattle.std.proofs.lemmas.Bool.Decides.{nat_tests}
use Rattle.std.proofs.lemmas.List.{get_or-set_same, get_or-set_other}
use Rattle.std.proofs.Math.ListN.{length-set}
use Rattle.mrp_types.specs.declared.id.RingId.{RingId}
use Rattle.mrp_types.specs.declared.id.TheConstants.{END}
use Rattle.mrp_types.specs.declared.value.Value.{Value}
use Rattle.mrp_types.specs.declared.voted.Voted.{Voted}
use Rattle.range_map.specs.Entries.{value_at, entries_from, with_range}
use Rattle.range_map.proofs.SetLemmas.{le-true, le-false}
use Rattle.range_map.proofs.RunsLemmas.{within-true, within-below, within-above}
use Rattle.range_map.proofs.EntryLemmas.{value_at-with_range, value_at-entries_from, increasing_with_range, increasing_entries_from}
use Rattle.vote_state.specs.declared.cast.Cast.{Cast}
use Rattle.vote_state.specs.declared.ring.RingState.{RingState}
use Rattle.vote_state.specs.declared.change.Change.{Change}
use Rattle.vote_state.specs.declared.change.Change.TheVariants.{Epoch, Promise, Vote, Trim}
use Rattle.vote_state.specs.Ranges.{cast_of, are_held}
use Rattle.vote_state.specs.State.{State, ring_at, no_votes, with_promise, with_vote, with_trim, with_ring, taken}
use Rattle.vote_state.proofs.HeldLemmas.{held_meaning}
use Rattle.ring_safety.specs.Faces.{Face}
use Rattle.ring_safety.specs.Deeds.{Promises, Trims, done}
use Rattle.ring_reach.specs.Reach.{HasVoted}
use Rattle.ring_kept.specs.Kept.{told_of, KeptTies, kept_by, kept_after}

-- ---- promises

pub kept_promised : (f : Face Value) (kept : RingState) (ballot low high : ℕ) → KeptTies f kept → KeptTies (done (Promises ballot low high) f) (with_promise ballot kept)
kept_promised f kept ballot low high k = record { promise = refl; trim = k.trim; votes = k.votes; ordered = k.ordered; ended = k.ended }

-- a promise of the ballot that is promised changes nothing that is kept
pub kept_said : (f : Face Value) (kept : RingState) (ballot low high : ℕ) → kept.promise ≡ ballot → KeptTies f kept → KeptTies (done (Promises ballot low high) f) kept
kept_said f kept ballot low high same k = record { promise = sym same; trim = k.trim; votes = k.votes; ordered = k.ordered; ended = k.ended }

-- ---- votes at an instance

module _ {T : Type 0} where
  range_inside : (lo hi : ℕ) (v : T) (es : List (ℕ × T)) (i : ℕ) → lo ≤ i → i < hi → value_at i (with_range lo hi v es) ≡ Some v
  range_inside lo hi v es i from to = value_at-with_range lo hi v es i (omega arith) ∙ rw (within-true lo hi i from to) refl

  range_below : (lo hi : ℕ) (v : T) (es : List (ℕ × T)) (i : ℕ) → lo < hi → i < lo → value_at i (with_range lo hi v es) ≡ value_at i es
  range_below lo hi v es i lt below = value_at-with_range lo hi v es i lt ∙ rw (within-below lo hi i below) refl

  range_above : (lo hi : ℕ) (v : T) (es : List (ℕ × T)) (i : ℕ) → lo < hi → hi ≤ i → value_at i (with_range lo hi v es) ≡ value_at i es
  range_above lo hi v es i lt above = value_at-with_range lo hi v es i lt ∙ rw (within-above lo hi i above) refl

  pub cut_above : (to : ℕ) (es : List (ℕ × T)) (i : ℕ) → to ≤ i → value_at i (entries_from to es) ≡ value_at i es
  cut_above to es i from = value_at-entries_from to es i ∙ rw (le-true to i from) refl

  pub cut_below : (to : ℕ) (es : List (ℕ × T)) (i : ℕ) → i < to → value_at i (entries_from to es) ≡ None
  cut_below to es i below = value_at-entries_from to es i ∙ rw (le-false to i below) refl

-- ---- votes

module _ (f g : Face Value) (kept : RingState) (v : Voted) (k : KeptTies f kept) (voted : HasVoted f g v.ballot v.lo (v.hi - v.lo) v.value) where
  pub kept_voted : v.lo < v.hi → v.hi ≤ END → KeptTies g (with_vote v kept)
  kept_voted lt top = record {
    promise = voted.promise ∙ k.promise;
    trim = voted.trim ∙ k.trim;
    votes = λ i. elim (cases_lt i v.lo) [
      | inl below ↦
          voted.outside i (λ x y. omega arith) ∙ k.votes i ∙ ap (λ (o : Option Cast). told_of o) (sym (range_below v.lo v.hi (cast_of v) kept.votes i lt below))
      | inr from ↦ elim (cases_lt i v.hi) [
        | inl to ↦ voted.inside i from (omega arith) ∙ ap (λ (o : Option Cast). told_of o) (sym (range_inside v.lo v.hi (cast_of v) kept.votes i from to))
        | inr above ↦
            voted.outside i (λ x y. omega arith) ∙ k.votes i ∙ ap (λ (o : Option Cast). told_of o) (sym (range_above v.lo v.hi (cast_of v) kept.votes i lt above))
      ]
    ];
    ordered = increasing_with_range v.lo v.hi (cast_of v) kept.votes lt k.ordered;
    ended = λ i past. range_above v.lo v.hi (cast_of v) kept.votes i lt (omega arith) ∙ k.ended i past;
  }

  -- where the votes are held already, they are still so
  pub kept_held : are_held v kept.votes ≡ true → KeptTies g kept
  kept_held h = record {
    promise = voted.promise ∙ k.promise;
    trim = voted.trim ∙ k.trim;
    votes = λ i. elim (cases_lt i v.lo) [
      | inl below ↦ voted.outside i (λ x y. omega arith) ∙ k.votes i
      | inr from ↦ elim (cases_lt i v.hi) [
        | inl to ↦ voted.inside i from (omega arith) ∙ ap (λ o. told_of o) (sym ((held_meaning true v kept.votes (sym h)).0 refl i from to))
        | inr above ↦ voted.outside i (λ x y. omega arith) ∙ k.votes i
      ]
    ];
    ordered = k.ordered;
    ended = k.ended;
  }

-- ---- trims

pub kept_trimmed : (f : Face Value) (kept : RingState) (to : ℕ) → KeptTies f kept → KeptTies (done (Trims to) f) (with_trim to kept)
kept_trimmed f kept to k = record {
  promise = k.promise;
  trim = refl;
  votes = votes;
  ordered = increasing_entries_from 0 to 0 kept.votes k.ordered (inl (omega arith));
  ended = λ i past. elim (cases_lt i to) [
    | inl below ↦ cut_below to kept.votes i below
    | inr from ↦ cut_above to kept.votes i from ∙ k.ended i past
  ];
}
  where
    votes : (i : ℕ) → cond (nat_lt i to) None (f.votes i) ≡ told_of (value_at i (entries_from to kept.votes))
    votes i = go (nat_lt i to) refl
      where
        go : (b : Bool) → nat_lt i to ≡ b → cond b None (f.votes i) ≡ told_of (value_at i (entries_from to kept.votes))
        go true e = let below : i < to = grind (arith, nat_tests) in ap (λ (o : Option Cast). told_of o) (sym (cut_below to kept.votes i below))
        go false e = let from : to ≤ i = grind (arith, nat_tests) in k.votes i ∙ ap (λ (o : Option Cast). told_of o) (sym (cut_above to kept.votes i from))

-- ---- changes of one ring among those of all

pub kept_after_more : (ring : RingId) (cs : List Change) (c : Change) (kept : RingState) → kept_after ring (cs ++ c ∷ []) kept ≡ kept_by ring c (kept_after ring cs kept)
kept_after_more ring [] c kept = refl
kept_after_more ring (d ∷ cs) c kept = kept_after_more ring cs c (kept_by ring d kept)

-- one change of a ring, seen at a ring
change_at : (ring other : RingId) (f : RingState → RingState) (s : State) → ring.0 < length s.rings
    → ring_at (with_ring other (f (ring_at s other)) s) ring ≡ (if nat_eq other.0 ring.0 then f (ring_at s ring) else ring_at s ring)
change_at ring other f s within = elim (cases_eq other.0 ring.0) [
  | inl same ↦
      let e : nat_eq other.0 ring.0 ≡ true = grind (arith, nat_tests) in
      rw e (ap (λ x. slice_index_or (slice_set s.rings x (f (slice_index_or s.rings x no_votes))) ring.0 no_votes) same
      ∙ get_or-set_same s.rings ring.0 (f (slice_index_or s.rings ring.0 no_votes)) no_votes within)
  | inr ne ↦
      let e : nat_eq other.0 ring.0 ≡ false = grind (arith, nat_tests) in
      rw e (get_or-set_other s.rings other.0 ring.0 (f (slice_index_or s.rings other.0 no_votes)) no_votes (λ h. ne (sym h)))
]

still_within : (ring other : RingId) (r : RingState) (s : State) → ring.0 < length s.rings → ring.0 < length (with_ring other r s).rings
still_within ring other r s within = simp length-set within

-- what changes leave of a ring
pub ring_taken : (ring : RingId) (cs : List Change) (s : State) → ring.0 < length s.rings → ring_at (taken cs s) ring ≡ kept_after ring cs (ring_at s ring)
ring_taken ring [] s within = refl
ring_taken ring (Epoch epoch ∷ cs) s within = ring_taken ring cs (record s { epoch = epoch }) within
ring_taken ring (Promise other ballot ∷ cs) s within =
    ring_taken ring cs (with_ring other (with_promise ballot (ring_at s other)) s) (still_within ring other (with_promise ballot (ring_at s other)) s within)
    ∙ ap (λ r. kept_after ring cs r) (change_at ring other (with_promise ballot) s within)
ring_taken ring (Vote other v ∷ cs) s within =
    ring_taken ring cs (with_ring other (with_vote v (ring_at s other)) s) (still_within ring other (with_vote v (ring_at s other)) s within)
    ∙ ap (λ r. kept_after ring cs r) (change_at ring other (with_vote v) s within)
ring_taken ring (Trim other inst ∷ cs) s within =
    ring_taken ring cs (with_ring other (with_trim inst (ring_at s other)) s) (still_within ring other (with_trim inst (ring_at s other)) s within)
    ∙ ap (λ r. kept_after ring cs r) (change_at ring other (with_trim inst) s within)
