-- What an active coordinator may propose: at an instance past which a majority is covered, what agrees with the report there.
use Rattle.std.proofs.Common.{◌≡◌, inl, inr, ℕ, ◌+◌, ◌<◌, ◌≤◌, max, Bool, true, cond, List, [], ◌∷◌, Option, Some, None, refl, sym, ◌∙◌, ap, arith, length}
use Rattle.std.specs.Prelude.{nat_lt, slice_index, count_by}
use Rattle.std.proofs.lemmas.Bool.Decides.{nat_tests}
use Rattle.std.proofs.lemmas.List.Sums.{sum_by-cons}
use Rattle.mrp_types.specs.declared.id.TheConstants.{END}
use Rattle.mrp_types.specs.declared.value.Value.{Value}
use Rattle.range_map.specs.Entries.{value_at}
use Rattle.vote_state.specs.declared.cast.Cast.{Cast}
use Rattle.quorums.specs.Groups.{count, IsMajority, Shared}
use Rattle.quorums.proofs.Meeting.{majorities_meet}
use Rattle.ring_reach.specs.Reach.{seen, proposal}
use Rattle.ring_reach.proofs.Reaching.{promised_seen}
use Rattle.protocol.specs.Parts.{Ring}
use Rattle.protocol.specs.Ballots.{covered_to}
use Rattle.protocol.proofs.CoverLemmas.{covers}
use Rattle.protocol.proofs.OfferLemmas.{Agrees}
use Rattle.ring_safety.specs.Faces.{Face, Vote, rank}
use Rattle.ring_safety.specs.Deeds.{IsDue, Backing}
use Rattle.ring_kept.specs.Kept.{told_of}
use Rattle.ring_kept.proofs.Masks.{count_lowest}
use Rattle.ring_tables.specs.Ties.{acceptors, Reports, IsReported}

-- ---- positions covered past an instance

count_by_cons : (test : ℕ → Bool) (x : ℕ) (xs : List ℕ) → count_by test (x ∷ xs) ≡ cond (test x) 1 0 + count_by test xs
count_by_cons test x xs = sum_by-cons (λ y. cond (test y) 1 0) x xs

-- as many positions pass a test as elements of the list
count_positions : (test : ℕ → Bool) (xs : List ℕ) → count (λ k. test (slice_index xs k)) (length xs) ≡ count_by test xs
count_positions test [] = refl
count_positions test (x ∷ xs) =
    count_lowest (λ k. test (slice_index (x ∷ xs) k)) (length xs) ∙ ap (λ c. cond (test x) 1 0 + c) (count_positions test xs) ∙ sym (count_by_cons test x xs)

abbrev pub covered_past : List ℕ → ℕ → ℕ → Bool
covered_past covered i k = nat_lt i (slice_index covered k)

pub covered_majority : (ring : Ring) (covered : List ℕ) (i : ℕ) → length covered ≡ acceptors ring → i < covered_to ring covered → IsMajority (acceptors ring) (covered_past covered i)
covered_majority ring covered i sized lt =
    let many = (covers ring covered i).0 lt in
    let same = count_positions (λ c. nat_lt i c) covered in
    let all = ap (λ n. count (covered_past covered i) n) sized in
    omega arith

-- no instance is covered past the end of all instances
pub covered_ended : (ring : Ring) (covered : List ℕ) (trim i : ℕ) → length covered ≡ acceptors ring → ((k : ℕ) → slice_index covered k ≤ max END trim) → trim ≤ i
    → i < covered_to ring covered → i < END
covered_ended ring covered trim i sized ended from lt =
    let all : IsMajority (acceptors ring) (covered_past covered i) = covered_majority ring covered i sized lt in
    let one : Shared (acceptors ring) (covered_past covered i) (covered_past covered i) = majorities_meet (acceptors ring) (covered_past covered i) (covered_past covered i) all all in
    let test = one.in_first in
    let under : i < slice_index covered one.member = grind (arith, nat_tests) in
    let top = ended one.member in
    omega arith

-- ---- the due value

no_rank : (o : Option (Vote Value)) → rank o ≤ 0 → o ≡ None
no_rank None le = refl
no_rank (Some v) le = absurd (omega arith)

module _ (ring : Ring) (faces : ℕ → Face Value) (a : ℕ) (f : Face Value) (trim ballot : ℕ) (covered : List ℕ) (reports : List (ℕ × Cast))
    (r : Reports (acceptors ring) (seen faces a f) trim ballot covered reports) (sized : length covered ≡ acceptors ring) (i : ℕ) (value : Value) where
  past : (k : ℕ) → covered_past covered i k ≡ true → i < slice_index covered k
  past k is = grind (arith, nat_tests)

  due : trim ≤ i → Agrees reports i value → (o : Option Cast) → value_at i reports ≡ o → IsDue (acceptors ring) (covered_past covered i) (λ k. (r.page k i).told i) value
  due from agrees None e = inl (λ k lt is.
      let below = r.told k i lt from (past k is) in
      let none = ap (λ (o : Option Cast). rank (told_of o)) e in
      no_rank ((r.page k i).told i) (omega arith))
  due from agrees (Some cast) e =
      let q : IsReported (acceptors ring) covered r.page i cast = r.reported i cast from e in
      let beyond : i < slice_index covered q.member = q.past in
      inr (record {
        member = q.member;
        below = q.below;
        is_member = grind (arith, nat_tests);
        vote = record { ballot = cast.ballot; value = cast.value };
        tells = q.tells;
        highest = λ k lt is.
            let below = r.told k i lt from (past k is) in
            let there = ap (λ (o : Option Cast). rank (told_of o)) e in
            let top = ap (λ (o : Option (Vote Value)). rank o) q.tells in
            omega arith;
        same = agrees cast e;
      })

  pub backing : trim ≤ i → i < covered_to ring covered → Agrees reports i value → Backing (acceptors ring) faces a f (proposal ballot i value)
  backing from lt agrees = record {
    members = covered_past covered i;
    promise = λ k. r.page k i;
    majority = covered_majority ring covered i sized lt;
    made = λ k within is. promised_seen (acceptors ring) faces a f k (r.page k i) (r.made k i within from (past k is));
    serves = λ k within is. r.serves k i within from (past k is);
    due = due from agrees (value_at i reports) refl;
  }
