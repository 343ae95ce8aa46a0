-- The changes that a state stands for make it again.
use Rattle.std.proofs.Common.{◌≡◌, ℕ, suc, ◌^◌, ◌<◌, true, false, Bool, List, [], ◌∷◌, ◌++◌, length, map, refl, sym, ◌∙◌, ap, subst, arith, append_assoc}
use Rattle.std.specs.Prelude.{nat_eq, if◌then◌else◌, replicate, slice_index_or, slice_set}
use Rattle.std.specs.List.{AllByRecursion}
use Rattle.std.proofs.lemmas.List.{length-append}
use Rattle.mrp_types.specs.declared.id.RingId.{RingId}
use Rattle.range_map.specs.Entries.{IsIncreasingFrom, entries_from}
use Rattle.range_map.proofs.SetLemmas.{le-true}
use Rattle.vote_state.specs.declared.cast.Cast.{Cast}
use Rattle.mrp_types.specs.declared.voted.Voted.{Voted}
use Rattle.vote_state.specs.declared.ring.RingState.{RingState}
use Rattle.vote_state.specs.declared.change.Change.{Change}
use Rattle.vote_state.specs.declared.change.Change.TheVariants.{Epoch, Promise, Vote, Trim}
use Rattle.vote_state.specs.Ranges.{ranges_of, votes_of_ranges}
use Rattle.vote_state.specs.State.{State, IsKept, IsState, no_votes, nothing_kept, ring_at, with_ring, with_promise, with_vote, with_trim, taken, promise_changes, trim_changes, ring_changes, rings_changes, state_changes}
use Rattle.vote_state.proofs.OneList.{votes_again}
use Rattle.vote_state.specs.Valid.{IsChange}
use Rattle.vote_state.proofs.ValidLemmas.{state_valid}
use Rattle.vote_state.proofs.StateLemmas.{taken-append}
use Rattle.range_map.proofs.EntryLemmas.{eq-from}

all_from : (votes : List (ℕ × Cast)) → entries_from 0 votes ≡ votes
all_from [] = refl
all_from (e ∷ es) = rw (le-true 0 e.0 (omega arith)) (ap (λ (x : List (ℕ × Cast)). e ∷ x) (all_from es))

pub ranges_from_zero : (votes : List (ℕ × Cast)) → ranges_of (entries_from 0 votes) ≡ ranges_of votes
ranges_from_zero votes = ap (λ (x : List (ℕ × Cast)). ranges_of x) (all_from votes)

set_mid : (front : List RingState) (x y : RingState) (rest : List RingState) → slice_set (front ++ x ∷ rest) (length front) y ≡ front ++ y ∷ rest
set_mid [] x y rest = refl
set_mid (f ∷ front) x y rest = ap (λ (l : List RingState). f ∷ l) (set_mid front x y rest)

get_mid : (front : List RingState) (x : RingState) (rest : List RingState) → slice_index_or (front ++ x ∷ rest) (length front) no_votes ≡ x
get_mid [] x rest = refl
get_mid (f ∷ front) x rest = get_mid front x rest

-- one ring among the others
module _ (epoch : ℕ) (front rest : List RingState) where
  abbrev own : RingId
  own = record { 0 = length front }

  abbrev state : RingState → State
  state r = record { epoch = epoch; rings = front ++ r ∷ rest }

  changed_mid : (f : RingState → RingState) (r : RingState) → with_ring own (f (ring_at (state r) own)) (state r) ≡ state (f r)
  changed_mid f r =
      ap (λ (x : RingState). with_ring own (f x) (state r)) (get_mid front r rest)
      ∙ ap (λ (l : List RingState). let s : State = record { epoch = epoch; rings = l } in s) (set_mid front r (f r) rest)

  abbrev ring_of : ℕ → ℕ → List (ℕ × Cast) → RingState
  ring_of promise trim votes = record { promise = promise; trim = trim; votes = votes }

  promise_made : (ballot : ℕ) → taken (promise_changes own ballot) (state no_votes) ≡ state (ring_of ballot 0 [])
  promise_made ballot = by_test (nat_eq ballot 0) refl
    where
      by_test : (b : Bool) → nat_eq ballot 0 ≡ b → taken (if b then [] else Promise own ballot ∷ []) (state no_votes) ≡ state (ring_of ballot 0 [])
      by_test true h = ap (λ (n : ℕ). state (ring_of n 0 [])) (sym (eq-from ballot 0 h))
      by_test false h = changed_mid (with_promise ballot) no_votes

  trim_made : (ballot inst : ℕ) → taken (trim_changes own inst) (state (ring_of ballot 0 [])) ≡ state (ring_of ballot inst [])
  trim_made ballot inst = by_test (nat_eq inst 0) refl
    where
      by_test : (b : Bool) → nat_eq inst 0 ≡ b → taken (if b then [] else Trim own inst ∷ []) (state (ring_of ballot 0 [])) ≡ state (ring_of ballot inst [])
      by_test true h = ap (λ (n : ℕ). state (ring_of ballot n [])) (sym (eq-from inst 0 h))
      by_test false h = changed_mid (with_trim inst) (ring_of ballot 0 [])

  votes_made : (ballot inst : ℕ) (ranges : List Voted) (votes : List (ℕ × Cast)) → taken (map (Vote own) ranges) (state (ring_of ballot inst votes)) ≡ state (ring_of ballot inst (votes_of_ranges ranges votes))
  votes_made ballot inst [] votes = refl
  votes_made ballot inst (v ∷ vs) votes =
      ap (λ (s : State). taken (map (Vote own) vs) s) (changed_mid (with_vote v) (ring_of ballot inst votes)) ∙ votes_made ballot inst vs _

  ring_made : (r : RingState) → IsIncreasingFrom 0 r.votes → taken (ring_changes own r) (state no_votes) ≡ state r
  ring_made r ordered =
      let votes = map (Vote own) (ranges_of r.votes) in
      taken-append (promise_changes own r.promise ++ trim_changes own r.trim) (map (Vote own) (ranges_of r.votes)) (state no_votes)
      ∙ ap (λ (s : State). taken (map (Vote own) (ranges_of r.votes)) s) (taken-append (promise_changes own r.promise) (trim_changes own r.trim) (state no_votes) ∙ ap (λ (s : State). taken (trim_changes own r.trim) s) (promise_made r.promise) ∙ trim_made r.promise r.trim)
      ∙ votes_made r.promise r.trim (ranges_of r.votes) []
      ∙ ap (λ (v : List (ℕ × Cast)). state (ring_of r.promise r.trim v)) (votes_again r.votes ordered)

rings_made : (epoch : ℕ) (front rings : List RingState) → AllByRecursion IsKept rings
    → taken (rings_changes (length front) rings) (record { epoch = epoch; rings = front ++ replicate (length rings) no_votes }) ≡ record { epoch = epoch; rings = front ++ rings }
rings_made epoch front [] each = refl
rings_made epoch front (r ∷ rings) each =
    let next : length (front ++ r ∷ []) ≡ suc (length front) = omega (arith, length-append front (r ∷ [])) in
    let more = rings_made epoch (front ++ r ∷ []) rings each.1 in
    taken-append (ring_changes (record { 0 = length front }) r) (rings_changes (suc (length front)) rings) (record { epoch = epoch; rings = front ++ no_votes ∷ replicate (length rings) no_votes })
    ∙ ap (λ (s : State). taken (rings_changes (suc (length front)) rings) s) (ring_made epoch front (replicate (length rings) no_votes) r each.0.ordered)
    ∙ ap (λ (n : ℕ). taken (rings_changes n rings) (record { epoch = epoch; rings = front ++ r ∷ replicate (length rings) no_votes })) (sym next)
    ∙ ap (λ (l : List RingState). taken (rings_changes (length (front ++ r ∷ [])) rings) (record { epoch = epoch; rings = l })) (sym (append_assoc front (r ∷ []) (replicate (length rings) no_votes)))
    ∙ more
    ∙ ap (λ (l : List RingState). let s : State = record { epoch = epoch; rings = l } in s) (append_assoc front (r ∷ []) rings)

pub state_made : (s : State) → IsState s → taken (state_changes s) nothing_kept ≡ s
state_made s formed =
    ap (λ (n : ℕ). taken (rings_changes 0 s.rings) (record { epoch = s.epoch; rings = replicate n no_votes })) (sym formed.all) ∙ rings_made s.epoch [] s.rings formed.each

-- the three parts of a ring, added one after another
pub ring_added : (old first second third : List Change) (ring : RingId) (r : RingState) (votes items : List Voted) → first ≡ old ++ promise_changes ring r.promise → second ≡ first ++ trim_changes ring r.trim
    → items ≡ votes → votes ≡ ranges_of (entries_from 0 r.votes) → third ≡ second ++ map (Vote ring) items → third ≡ old ++ ring_changes ring r
ring_added old first second third ring r votes items a b same are c =
    let all : items ≡ ranges_of r.votes = same ∙ are ∙ ranges_from_zero r.votes in
    c ∙ ap (λ (v : List Voted). second ++ map (Vote ring) v) all ∙ ap (λ (l : List Change). l ++ map (Vote ring) (ranges_of r.votes)) (b ∙ ap (λ (l : List Change). l ++ trim_changes ring r.trim) a)
    ∙ ap (λ (l : List Change). l ++ map (Vote ring) (ranges_of r.votes)) (append_assoc old (promise_changes ring r.promise) (trim_changes ring r.trim))
    ∙ append_assoc old (promise_changes ring r.promise ++ trim_changes ring r.trim) (map (Vote ring) (ranges_of r.votes))

-- the epoch and the rings, added one after another
pub all_changes : (s : State) (epoch : ℕ) (none first all : List Change) → epoch ≡ s.epoch → none ≡ [] → first ≡ none ++ Epoch epoch ∷ [] → all ≡ first ++ rings_changes 0 s.rings → all ≡ state_changes s
all_changes s epoch none first all is empty a b =
    let one : first ≡ Epoch s.epoch ∷ [] = a ∙ ap (λ (l : List Change). l ++ Epoch epoch ∷ []) empty ∙ ap (λ (n : ℕ). Epoch n ∷ []) is in
    b ∙ ap (λ (l : List Change). l ++ rings_changes 0 s.rings) one

pub all_valid : (s : State) (epoch : ℕ) (all : List Change) → all ≡ state_changes s → epoch ≡ s.epoch → epoch < 2 ^ 32 → IsState s → AllByRecursion IsChange all
all_valid s epoch all is same small formed = subst (λ (l : List Change). AllByRecursion IsChange l) (sym is) (state_valid s formed (subst (λ (n : ℕ). n < 2 ^ 32) same small))
