-- What changes make of the state.
use Rattle.std.proofs.Common.{lit<, ◌+◌, ◌-◌, ◌^◌, ◌≡◌, ℕ, zero, suc, ◌<◌, ◌≤◌, true, false, Bool, List, [], ◌∷◌, ◌++◌, length, drop, refl, sym, ◌∙◌, ap, arith, inl, inr}
use Rattle.std.specs.Prelude.{nat_le, nat_lt, filter, nat_eq, if◌then◌else◌, slice_index_or, slice_set}
use Rattle.std.specs.List.{AllByRecursion}
use Rattle.std.proofs.lemmas.Bool.{cases_eq}
use Rattle.std.proofs.lemmas.List.{drop_all, length-set, get_or-set_same, get_or-set_other}
use Rattle.mrp_types.specs.declared.id.RingId.{RingId}
use Rattle.range_map.specs.Entries.{entries_before, entries_from, spread_over, spread}
use Rattle.range_map.proofs.EntryLemmas.{increasing_with_range, increasing_entries_from, eq-true, eq-false}
use Rattle.vote_state.specs.declared.cast.Cast.{Cast}
use Rattle.mrp_types.specs.declared.voted.Voted.{Voted}
use Rattle.vote_state.specs.Ranges.{cast_of}
use Rattle.vote_state.specs.declared.ring.RingState.{RingState}
use Rattle.vote_state.specs.declared.change.Change.{Change}
use Rattle.vote_state.specs.declared.change.Change.TheVariants.{Epoch, Promise, Vote, Trim}
use Rattle.vote_state.specs.State.{State, IsKept, AreRings, IsState, no_votes, ring_at, promise_at, trim_at, with_ring, with_promise, with_vote, with_trim, changed, taken, promise_by, promise_after, trim_by, trim_after}
use Rattle.vote_state.specs.Valid.{IsBallot, IsInst, IsVoted, IsHeld, IsChange}
use Rattle.command_codec.specs.Parts.{IsSpelled}

pub taken-append : (xs ys : List Change) (s : State) → taken (xs ++ ys) s ≡ taken ys (taken xs s)
taken-append [] ys s = refl
taken-append (x ∷ xs) ys s = taken-append xs ys (changed x s)

pub promise_after-append : (ring : RingId) (xs ys : List Change) (ballot : ℕ) → promise_after ring (xs ++ ys) ballot ≡ promise_after ring ys (promise_after ring xs ballot)
promise_after-append ring [] ys ballot = refl
promise_after-append ring (x ∷ xs) ys ballot = promise_after-append ring xs ys (promise_by ring x ballot)

pub trim_after-append : (ring : RingId) (xs ys : List Change) (inst : ℕ) → trim_after ring (xs ++ ys) inst ≡ trim_after ring ys (trim_after ring xs inst)
trim_after-append ring [] ys inst = refl
trim_after-append ring (x ∷ xs) ys inst = trim_after-append ring xs ys (trim_by ring x inst)

-- ---- one ring of the state

ring_set : (s : State) (other ring : RingId) (r : RingState) → length s.rings ≡ 16 → other.0 < 16 → ring_at (with_ring other r s) ring ≡ (if nat_eq other.0 ring.0 then r else ring_at s ring)
ring_set s other ring r all valid =
    elim (cases_eq other.0 ring.0) [
      | inl same ↦ rw (eq-true other.0 ring.0 same) (ap (λ i. slice_index_or (slice_set s.rings other.0 r) i no_votes) (sym same) ∙ get_or-set_same s.rings other.0 r no_votes (omega arith))
      | inr ne ↦ rw (eq-false other.0 ring.0 ne) (get_or-set_other s.rings other.0 ring.0 r no_votes (λ same. ne (sym same)))
    ]

promise_set : (s : State) (other ring : RingId) (r : RingState) → length s.rings ≡ 16 → other.0 < 16 → promise_at (with_ring other r s) ring ≡ (if nat_eq other.0 ring.0 then r.promise else promise_at s ring)
promise_set s other ring r all valid = ap (λ (x : RingState). x.promise) (ring_set s other ring r all valid) ∙ inside (nat_eq other.0 ring.0)
  where
    inside : (b : Bool) → (if b then r else ring_at s ring).promise ≡ (if b then r.promise else promise_at s ring)
    inside true = refl
    inside false = refl

trim_set : (s : State) (other ring : RingId) (r : RingState) → length s.rings ≡ 16 → other.0 < 16 → trim_at (with_ring other r s) ring ≡ (if nat_eq other.0 ring.0 then r.trim else trim_at s ring)
trim_set s other ring r all valid = ap (λ (x : RingState). x.trim) (ring_set s other ring r all valid) ∙ inside (nat_eq other.0 ring.0)
  where
    inside : (b : Bool) → (if b then r else ring_at s ring).trim ≡ (if b then r.trim else trim_at s ring)
    inside true = refl
    inside false = refl

-- what another change leaves as it was
own_promise : (s : State) (other ring : RingId) → (if nat_eq other.0 ring.0 then promise_at s other else promise_at s ring) ≡ promise_at s ring
own_promise s other ring =
    elim (cases_eq other.0 ring.0) [
      | inl same ↦ rw (eq-true other.0 ring.0 same) (ap (λ i. (slice_index_or s.rings i no_votes).promise) same)
      | inr ne ↦ rw (eq-false other.0 ring.0 ne) refl
    ]

own_trim : (s : State) (other ring : RingId) → (if nat_eq other.0 ring.0 then trim_at s other else trim_at s ring) ≡ trim_at s ring
own_trim s other ring =
    elim (cases_eq other.0 ring.0) [
      | inl same ↦ rw (eq-true other.0 ring.0 same) (ap (λ i. (slice_index_or s.rings i no_votes).trim) same)
      | inr ne ↦ rw (eq-false other.0 ring.0 ne) refl
    ]

promise_changed : (c : Change) (s : State) (ring : RingId) → length s.rings ≡ 16 → IsChange c → promise_at (changed c s) ring ≡ promise_by ring c (promise_at s ring)
promise_changed (Epoch epoch) s ring all valid = refl
promise_changed (Promise other ballot) s ring all valid = promise_set s other ring (with_promise ballot (ring_at s other)) all valid.0
promise_changed (Vote other v) s ring all valid = promise_set s other ring (with_vote v (ring_at s other)) all valid.0 ∙ own_promise s other ring
promise_changed (Trim other inst) s ring all valid = promise_set s other ring (with_trim inst (ring_at s other)) all valid.0 ∙ own_promise s other ring

trim_changed : (c : Change) (s : State) (ring : RingId) → length s.rings ≡ 16 → IsChange c → trim_at (changed c s) ring ≡ trim_by ring c (trim_at s ring)
trim_changed (Epoch epoch) s ring all valid = refl
trim_changed (Promise other ballot) s ring all valid = trim_set s other ring (with_promise ballot (ring_at s other)) all valid.0 ∙ own_trim s other ring
trim_changed (Vote other v) s ring all valid = trim_set s other ring (with_vote v (ring_at s other)) all valid.0 ∙ own_trim s other ring
trim_changed (Trim other inst) s ring all valid = trim_set s other ring (with_trim inst (ring_at s other)) all valid.0

all_changed : (c : Change) (s : State) → length s.rings ≡ 16 → length (changed c s).rings ≡ 16
all_changed (Epoch epoch) s all = all
all_changed (Promise ring ballot) s all = length-set s.rings ring.0 (with_promise ballot (ring_at s ring)) ∙ all
all_changed (Vote ring v) s all = length-set s.rings ring.0 (with_vote v (ring_at s ring)) ∙ all
all_changed (Trim ring inst) s all = length-set s.rings ring.0 (with_trim inst (ring_at s ring)) ∙ all

pub promise_taken : (cs : List Change) (s : State) (ring : RingId) → length s.rings ≡ 16 → AllByRecursion IsChange cs → promise_at (taken cs s) ring ≡ promise_after ring cs (promise_at s ring)
promise_taken [] s ring all valid = refl
promise_taken (c ∷ cs) s ring all valid =
    promise_taken cs (changed c s) ring (all_changed c s all) valid.1 ∙ ap (λ x. promise_after ring cs x) (promise_changed c s ring all valid.0)

pub trim_taken : (cs : List Change) (s : State) (ring : RingId) → length s.rings ≡ 16 → AllByRecursion IsChange cs → trim_at (taken cs s) ring ≡ trim_after ring cs (trim_at s ring)
trim_taken [] s ring all valid = refl
trim_taken (c ∷ cs) s ring all valid =
    trim_taken cs (changed c s) ring (all_changed c s all) valid.1 ∙ ap (λ x. trim_after ring cs x) (trim_changed c s ring all valid.0)

-- ---- what is kept stays valid

pub filter_all : {X : Type 0} (P : X → Type 0) (test : X → Bool) (xs : List X) → AllByRecursion P xs → AllByRecursion P (filter test xs)
filter_all P test [] each = tt
filter_all P test (x ∷ xs) each = kept_or_not (test x) (filter_all P test xs each.1)
  where
    kept_or_not : (b : Bool) → AllByRecursion P (filter test xs) → AllByRecursion P (if b then x ∷ filter test xs else filter test xs)
    kept_or_not true rest = (each.0, rest)
    kept_or_not false rest = rest

pub append_all : {X : Type 0} (P : X → Type 0) (xs ys : List X) → AllByRecursion P xs → AllByRecursion P ys → AllByRecursion P (xs ++ ys)
append_all P [] ys first second = second
append_all P (x ∷ xs) ys first second = (first.0, append_all P xs ys first.1 second)

spread_held : (lo n : ℕ) (cast : Cast) → lo + n ≤ 2 ^ 40 → IsBallot cast.ballot → IsSpelled cast.value → AllByRecursion IsHeld (spread_over lo n cast)
unfolding spread_over
spread_held lo zero cast end ballot value = tt
spread_held lo (suc n) cast end ballot value = ((omega arith, ballot, value), spread_held (suc lo) n cast (omega arith) ballot value)

pub vote_kept : (v : Voted) (r : RingState) → IsVoted v → IsKept r → IsKept (with_vote v r)
vote_kept v r valid kept =
    let range = valid.range in
    let end = valid.end in
    record {
      promise = kept.promise;
      trim = kept.trim;
      votes = append_all IsHeld (entries_before v.lo r.votes ++ spread v.lo v.hi (cast_of v)) (entries_from v.hi r.votes)
          (append_all IsHeld (entries_before v.lo r.votes) (spread v.lo v.hi (cast_of v)) (filter_all IsHeld (λ e. nat_lt e.0 v.lo) r.votes kept.votes) (spread_held v.lo (v.hi - v.lo) (cast_of v) (omega arith) valid.ballot valid.value))
          (filter_all IsHeld (λ e. nat_le v.hi e.0) r.votes kept.votes);
      ordered = increasing_with_range v.lo v.hi (cast_of v) r.votes valid.range kept.ordered;
    }

pub trim_is_kept : (inst : ℕ) (r : RingState) → IsInst inst → IsKept r → IsKept (with_trim inst r)
trim_is_kept inst r valid kept = record {
  promise = kept.promise;
  trim = valid;
  votes = filter_all IsHeld (λ e. nat_le inst e.0) r.votes kept.votes;
  ordered = increasing_entries_from 0 inst 0 r.votes kept.ordered (inl (omega arith));
}

pub promise_is_kept : (ballot : ℕ) (r : RingState) → IsBallot ballot → IsKept r → IsKept (with_promise ballot r)
promise_is_kept ballot r valid kept = record { promise = valid; trim = kept.trim; votes = kept.votes; ordered = kept.ordered }

pub none_kept : IsKept no_votes
none_kept = record { promise = lit< tt; trim = lit< tt; votes = tt; ordered = tt }

each_set : (rs : List RingState) (i : ℕ) (r : RingState) → AllByRecursion IsKept rs → IsKept r → AllByRecursion IsKept (slice_set rs i r)
each_set [] i r each new = tt
each_set (x ∷ rs) zero r each new = (new, each.1)
each_set (x ∷ rs) (suc i) r each new = (each.0, each_set rs i r each.1 new)

pub each_at : (rs : List RingState) (i : ℕ) → AllByRecursion IsKept rs → IsKept (slice_index_or rs i no_votes)
each_at [] i each = none_kept
each_at (x ∷ rs) zero each = each.0
each_at (x ∷ rs) (suc i) each = each_at rs i each.1

pub rings_set : (rs : List RingState) (i : ℕ) (r : RingState) → AreRings rs → IsKept r → AreRings (slice_set rs i r)
rings_set rs i r formed new = record { all = length-set rs i r ∙ formed.all; each = each_set rs i r formed.each new }

formed_changed : (c : Change) (s : State) → IsState s → IsChange c → IsState (changed c s)
formed_changed (Epoch epoch) s formed valid = formed
formed_changed (Promise ring ballot) s formed valid = rings_set s.rings ring.0 (with_promise ballot (ring_at s ring)) formed (promise_is_kept ballot (ring_at s ring) valid.1 (each_at s.rings ring.0 formed.each))
formed_changed (Vote ring v) s formed valid = rings_set s.rings ring.0 (with_vote v (ring_at s ring)) formed (vote_kept v (ring_at s ring) valid.1 (each_at s.rings ring.0 formed.each))
formed_changed (Trim ring inst) s formed valid = rings_set s.rings ring.0 (with_trim inst (ring_at s ring)) formed (trim_is_kept inst (ring_at s ring) valid.1 (each_at s.rings ring.0 formed.each))

pub formed_taken : (cs : List Change) (s : State) → IsState s → AllByRecursion IsChange cs → IsState (taken cs s)
formed_taken [] s formed valid = formed
formed_taken (c ∷ cs) s formed valid = formed_taken cs (changed c s) (formed_changed c s formed valid.0) valid.1

-- ---- all changes of a list made

pub promise_made : (ring : RingId) (cs : List Change) (n ballot start : ℕ) → length cs ≤ n → promise_after ring (drop n cs) ballot ≡ promise_after ring cs start → ballot ≡ promise_after ring cs start
promise_made ring cs n ballot start all kept =
    ap (λ (x : List Change). promise_after ring x ballot) (sym (drop_all n cs all)) ∙ kept

pub trim_made : (ring : RingId) (cs : List Change) (n inst start : ℕ) → length cs ≤ n → trim_after ring (drop n cs) inst ≡ trim_after ring cs start → inst ≡ trim_after ring cs start
trim_made ring cs n inst start all kept =
    ap (λ (x : List Change). trim_after ring x inst) (sym (drop_all n cs all)) ∙ kept
