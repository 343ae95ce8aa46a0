-- What changes leave of a ring.
use Rattle.std.proofs.Common.{◌≡◌, ℕ, ◌≤◌, true, false, Bool, List, [], ◌∷◌, refl, ◌∙◌, ap, arith, inl, inr}
use Rattle.std.specs.Prelude.{nat_eq, if◌then◌else◌}
use Rattle.std.proofs.lemmas.Bool.{cases_lt}
use Rattle.mrp_types.specs.declared.id.RingId.{RingId}
use Rattle.range_map.specs.Entries.{entries_from}
use Rattle.range_map.proofs.SetLemmas.{le-true, le-false}
use Rattle.vote_state.specs.declared.change.Change.{Change}
use Rattle.vote_state.specs.declared.change.Change.TheVariants.{Epoch, Promise, Vote, Trim}
use Rattle.vote_state.specs.declared.ring.RingState.{RingState}
use Rattle.vote_state.specs.State.{promise_after, trim_after, trim_by, with_promise, with_vote, with_trim}
use Rattle.ring_kept.specs.Kept.{kept_after}
use Rattle.ring_view.specs.Kept.{OnlyRaises}

module _ {T : Type 0} where
  -- from the later of two instances on
  pub later_from : (a b : ℕ) (es : List (ℕ × T)) → b ≤ a → entries_from a (entries_from b es) ≡ entries_from a es
  later_from a b [] h = refl
  later_from a b (e ∷ es) h =
      elim (cases_lt e.0 b) [
        | inl below ↦ rw (le-false b e.0 below, le-false a e.0 (omega arith)) (later_from a b es h)
        | inr from ↦ rw (le-true b e.0 from) (elim (cases_lt e.0 a) [
          | inl under ↦ rw (le-false a e.0 under) (later_from a b es h)
          | inr past ↦ rw (le-true a e.0 past) (ap (λ (l : List (ℕ × T)). e ∷ l) (later_from a b es h))
        ])
      ]

-- ---- the promise and the trim

pub promise_left : (ring : RingId) (cs : List Change) (kept : RingState) → (kept_after ring cs kept).promise ≡ promise_after ring cs kept.promise
promise_left ring [] kept = refl
promise_left ring (Epoch epoch ∷ cs) kept = promise_left ring cs kept
promise_left ring (Promise other ballot ∷ cs) kept = by (nat_eq other.0 ring.0) (λ k. promise_left ring cs k)
  where
    by : (b : Bool) → ((k : RingState) → (kept_after ring cs k).promise ≡ promise_after ring cs k.promise)
        → (kept_after ring cs (if b then with_promise ballot kept else kept)).promise ≡ promise_after ring cs (if b then ballot else kept.promise)
    by true rest = rest (with_promise ballot kept)
    by false rest = rest kept
promise_left ring (Vote other v ∷ cs) kept = by (nat_eq other.0 ring.0) (λ k. promise_left ring cs k)
  where
    by : (b : Bool) → ((k : RingState) → (kept_after ring cs k).promise ≡ promise_after ring cs k.promise)
        → (kept_after ring cs (if b then with_vote v kept else kept)).promise ≡ promise_after ring cs kept.promise
    by true rest = rest (with_vote v kept)
    by false rest = rest kept
promise_left ring (Trim other inst ∷ cs) kept = by (nat_eq other.0 ring.0) (λ k. promise_left ring cs k)
  where
    by : (b : Bool) → ((k : RingState) → (kept_after ring cs k).promise ≡ promise_after ring cs k.promise)
        → (kept_after ring cs (if b then with_trim inst kept else kept)).promise ≡ promise_after ring cs kept.promise
    by true rest = rest (with_trim inst kept)
    by false rest = rest kept

pub trim_left : (ring : RingId) (cs : List Change) (kept : RingState) → (kept_after ring cs kept).trim ≡ trim_after ring cs kept.trim
trim_left ring [] kept = refl
trim_left ring (Epoch epoch ∷ cs) kept = trim_left ring cs kept
trim_left ring (Promise other ballot ∷ cs) kept = by (nat_eq other.0 ring.0) (λ k. trim_left ring cs k)
  where
    by : (b : Bool) → ((k : RingState) → (kept_after ring cs k).trim ≡ trim_after ring cs k.trim)
        → (kept_after ring cs (if b then with_promise ballot kept else kept)).trim ≡ trim_after ring cs kept.trim
    by true rest = rest (with_promise ballot kept)
    by false rest = rest kept
trim_left ring (Vote other v ∷ cs) kept = by (nat_eq other.0 ring.0) (λ k. trim_left ring cs k)
  where
    by : (b : Bool) → ((k : RingState) → (kept_after ring cs k).trim ≡ trim_after ring cs k.trim)
        → (kept_after ring cs (if b then with_vote v kept else kept)).trim ≡ trim_after ring cs kept.trim
    by true rest = rest (with_vote v kept)
    by false rest = rest kept
trim_left ring (Trim other inst ∷ cs) kept = by (nat_eq other.0 ring.0) (λ k. trim_left ring cs k)
  where
    by : (b : Bool) → ((k : RingState) → (kept_after ring cs k).trim ≡ trim_after ring cs k.trim)
        → (kept_after ring cs (if b then with_trim inst kept else kept)).trim ≡ trim_after ring cs (if b then inst else kept.trim)
    by true rest = rest (with_trim inst kept)
    by false rest = rest kept

-- ---- the votes

raised : (ring : RingId) (cs : List Change) (trim : ℕ) → OnlyRaises ring trim cs → trim ≤ trim_after ring cs trim
raised ring [] trim only = omega arith
raised ring (Epoch epoch ∷ cs) trim only = raised ring cs trim only
raised ring (Promise other ballot ∷ cs) trim only = raised ring cs trim only
raised ring (Vote other v ∷ cs) trim only = raised ring cs trim only.1
raised ring (Trim other inst ∷ cs) trim only =
    let first = only.0 in
    let later = raised ring cs (trim_by ring (Trim other inst) trim) only.1 in
    omega arith

pub votes_left : (ring : RingId) (cs : List Change) (kept : RingState) (from : ℕ) → OnlyRaises ring kept.trim cs → trim_after ring cs kept.trim ≤ from
    → entries_from from (kept_after ring cs kept).votes ≡ entries_from from kept.votes
votes_left ring [] kept from only up = refl
votes_left ring (Epoch epoch ∷ cs) kept from only up = votes_left ring cs kept from only up
votes_left ring (Promise other ballot ∷ cs) kept from only up = by (nat_eq other.0 ring.0) (λ k below until. votes_left ring cs k from below until)
  where
    by : (b : Bool) → ((k : RingState) → OnlyRaises ring k.trim cs → trim_after ring cs k.trim ≤ from → entries_from from (kept_after ring cs k).votes ≡ entries_from from k.votes)
        → entries_from from (kept_after ring cs (if b then with_promise ballot kept else kept)).votes ≡ entries_from from kept.votes
    by true rest = rest (with_promise ballot kept) only up
    by false rest = rest kept only up
votes_left ring (Vote other v ∷ cs) kept from only up = by (nat_eq other.0 ring.0) only.0 (votes_left ring cs kept from only.1 up)
  where
    by : (b : Bool) → b ≡ false → entries_from from (kept_after ring cs kept).votes ≡ entries_from from kept.votes
        → entries_from from (kept_after ring cs (if b then with_vote v kept else kept)).votes ≡ entries_from from kept.votes
    by false e rest = rest
    by true e rest = absurd (cc)
votes_left ring (Trim other inst ∷ cs) kept from only up = by (nat_eq other.0 ring.0) (λ k below until. votes_left ring cs k from below until) only up
  where
    by : (b : Bool) → ((k : RingState) → OnlyRaises ring k.trim cs → trim_after ring cs k.trim ≤ from → entries_from from (kept_after ring cs k).votes ≡ entries_from from k.votes)
        → (kept.trim ≤ (if b then inst else kept.trim)) × OnlyRaises ring (if b then inst else kept.trim) cs → trim_after ring cs (if b then inst else kept.trim) ≤ from
        → entries_from from (kept_after ring cs (if b then with_trim inst kept else kept)).votes ≡ entries_from from kept.votes
    by true rest is to =
        let least = raised ring cs inst is.1 in
        rest (with_trim inst kept) is.1 to ∙ later_from from inst kept.votes (omega arith)
    by false rest is to = rest kept is.1 to
