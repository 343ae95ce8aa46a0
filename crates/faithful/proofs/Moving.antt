-- A valid tuple moved past its next place: valid, at or after, and not the same.
use Rattle.std.proofs.Common.{◌≡◌, ℕ, suc, ◌+◌, ◌<◌, ◌≤◌, inl, inr, Bool, true, false, List, [], ◌∷◌, Some, refl, sym, ap, subst, arith, le_refl, true≢false}
use Rattle.std.specs.Prelude.{◌==◌, if◌then◌else◌, length}
use Rattle.std.proofs.lemmas.Bool.{cases_lt}
use Rattle.std.proofs.lemmas.Bool.Decides.{nat_tests}
use Rattle.mrp_types.specs.declared.id.RingId.{RingId}
use Rattle.mrp_types.specs.declared.place.Place.{Place}
use Rattle.mrp_types.specs.declared.value.Value.TheVariants.{Skip}
use Rattle.plain_model.specs.Tuples.{place_of, next_place, moved_past, past, is_valid_tuple, has_rings, is_tuple_of, instances, IsOneOf, IsBelow, IsNotBelow}
use Rattle.plain_model.proofs.TupleOrder.{same_number, next_is_one, valid_is_front, front_is_valid, past_is_front, below_past, not_below_by, below_by}
use Rattle.protocol.specs.Lines.{Line}
use Rattle.faithful.specs.Scanners.{Reaches, book}
use Rattle.faithful.specs.Rules.{IsKnown, AllKnown, BySkips}
use Rattle.faithful.proofs.Ordering.{Reaches-trans, rings_fit, is_valid, is_tuple, is_reaches, reaches_is}
use Rattle.mrp_types.proofs.TupleMoves.{has_past}
use Rattle.faithful.proofs.Between.{none_between}

-- ---- the moved tuple is one of the same rings, and valid

pub past_tuple : (m : ℕ → ℕ) (rings : List RingId) (k : List (RingId × ℕ)) → is_tuple_of m rings k ≡ true → is_tuple_of m rings (past m k) ≡ true
past_tuple m rings k h =
    is_tuple m rings (past m k) (has_past m rings k (rings_fit m rings k h))
    (front_is_valid m (past m k) (past_is_front m k (valid_is_front m k (is_valid m rings k h))))

-- ---- and at or after it

entry_most : (m : ℕ → ℕ) (k : List (RingId × ℕ)) → is_valid_tuple m k ≡ true → (x : RingId × ℕ) → IsOneOf x k → IsOneOf (next_place m k) k → x.0.0 ≡ (next_place m k).0.0 → x.1 ≤ (next_place m k).1
entry_most m k valid x one next same = elim (cases_lt (next_place m k).1 x.1) [
  | inl less ↦ absurd (none_between m k valid (place_of (next_place m k)) (below_by x k (place_of (next_place m k)) one (sym same) less)
      (not_below_by (next_place m k) k (place_of (next_place m k)) next refl (le_refl _)))
  | inr le ↦ le
]

moved_reaches : (place : RingId × ℕ) (k : List (RingId × ℕ)) → ((x : RingId × ℕ) → IsOneOf x k → x.0.0 ≡ place.0.0 → x.1 ≤ place.1) → Reaches (instances (moved_past place k)) (instances k)
moved_reaches place [] most = tt
moved_reaches place (x ∷ k) most = (go (x.0.0 == place.0.0) refl, moved_reaches place k (λ y one same. most y (inr one) same))
  where
    go : (b : Bool) → (x.0.0 == place.0.0) ≡ b → x.1 ≤ (if b then (x.0, place.1 + 1) else x).1
    go true e = let le : x.1 ≤ place.1 = most x (inl refl) (same_number x.0.0 place.0.0 e) in omega arith
    go false e = le_refl x.1

pub past_reaches : (m : ℕ → ℕ) (k : List (RingId × ℕ)) → is_valid_tuple m k ≡ true → Reaches (instances (past m k)) (instances k)
past_reaches m [] valid = tt
past_reaches m (x ∷ k) valid = moved_reaches (next_place m (x ∷ k)) (x ∷ k) (λ y one same. entry_most m (x ∷ k) valid y one (next_is_one m x k) same)

moved_later : (place : RingId × ℕ) (k : List (RingId × ℕ)) → IsOneOf place k → Reaches (instances k) (instances (moved_past place k)) → ⊥
moved_later place [] one r = one
moved_later place (x ∷ k) (inr one) r = moved_later place k one r.1
moved_later place (x ∷ k) (inl e) r = go (x.0.0 == place.0.0) refl r.0
  where
    go : (b : Bool) → (x.0.0 == place.0.0) ≡ b → (if b then (x.0, place.1 + 1) else x).1 ≤ x.1 → ⊥
    go true t le = let same : place.1 ≡ x.1 = ap (λ (y : RingId × ℕ). y.1) e in omega arith
    go false t le = let same : place.0.0 ≡ x.0.0 = ap (λ (y : RingId × ℕ). y.0.0) e in differs x.0.0 place.0.0 t same
      where
        differs : (i j : ℕ) → (i == j) ≡ false → j ≡ i → ⊥
        differs i j f g = grind (arith, nat_tests)

pub past_later : (m : ℕ → ℕ) (k : List (RingId × ℕ)) → 0 < length k → Reaches (instances k) (instances (past m k)) → ⊥
past_later m [] some r = omega (arith, some)
past_later m (x ∷ k) some r = moved_later (next_place m (x ∷ k)) (x ∷ k) (next_is_one m x k) r

-- ---- what stands below it

pub past_known : (m : ℕ → ℕ) (lines : List Line) (k : List (RingId × ℕ)) → AllKnown lines k → IsKnown lines (next_place m k).0 (next_place m k).1 → AllKnown lines (past m k)
past_known m lines [] all next place below = absurd below
past_known m lines (x ∷ k) all next place below = elim (below_past m x k place below) [
  | inl before ↦ all place before
  | inr same ↦ subst (λ (q : Place). IsKnown lines q.ring q.inst) (sym same) next
]

pub past_skips : (m : ℕ → ℕ) (rings : List RingId) (lines : List Line) (from k : List (RingId × ℕ)) → BySkips m rings lines from k
    → book lines (next_place m k).0 (next_place m k).1 ≡ Some Skip → BySkips m rings lines from (past m k)
past_skips m rings lines from k s skip = record {
  from = s.from;
  to = past_tuple m rings k s.to;
  after = is_reaches (past m k) from (Reaches-trans (instances (past m k)) (instances k) (instances from) (past_reaches m k (is_valid m rings k s.to))
      (reaches_is rings k from (rings_fit m rings k s.to) (rings_fit m rings from s.from) s.after));
  skips = λ place below not. go k s.skips skip place below not;
}
  where
    go : (k : List (RingId × ℕ)) → ((place : Place) → IsBelow place k → IsNotBelow place from → book lines place.ring place.inst ≡ Some Skip) → book lines (next_place m k).0 (next_place m k).1 ≡ Some Skip
        → (place : Place) → IsBelow place (past m k) → IsNotBelow place from → book lines place.ring place.inst ≡ Some Skip
    go [] skips here place below not = absurd below
    go (x ∷ k) skips here place below not = elim (below_past m x k place below) [
      | inl before ↦ skips place before not
      | inr same ↦ subst (λ (q : Place). book lines q.ring q.inst ≡ Some Skip) (sym same) here
    ]

-- ---- its entries are as many as rings

pub same_size : (rings : List RingId) (k : List (RingId × ℕ)) → has_rings rings k ≡ true → 0 < length rings → 0 < length k
same_size [] k h some = absurd (omega (arith, some))
same_size (ring ∷ rings) [] h some = absurd (true≢false (sym h))
same_size (ring ∷ rings) (x ∷ k) h some = let more : length (x ∷ k) ≡ suc (length k) = refl in omega arith
