-- Tuples as lines print them, and the order of valid tuples.
use Rattle.std.proofs.Common.{◌≡◌, ℕ, ◌≤◌, ◌⊎◌, inl, inr, Bool, true, false, List, [], ◌∷◌, refl, sym, arith, le_refl, le_trans, true≢false}
use Rattle.std.specs.Prelude.{◌==◌, nat_lt, nat_le, ◌&&◌, ◌||◌}
use Rattle.std.proofs.lemmas.Bool.Decides.{nat_tests}
use Rattle.mrp_types.specs.declared.id.RingId.{RingId}
use Rattle.checkpoint.specs.Checkpoints.{is_same_tuple, is_after}
use Rattle.plain_model.specs.Tuples.{is_at_or_after, has_rings, is_valid_tuple, is_tuple_of, instances}
use Rattle.plain_model.proofs.TupleOrder.{split_and, both_true, same_number}
use Rattle.plain_model.proofs.TupleChain.{le_is, is_le, one_reaches, later_rings, by_entries, by_parts_of_list}
pub use Rattle.line_rules.proofs.Printed.{rings_fit, paired_same}
use Rattle.faithful.specs.Scanners.{Reaches}

pub Reaches-refl : (xs : List ℕ) → Reaches xs xs
Reaches-refl [] = tt
Reaches-refl (x ∷ xs) = (le_refl x, Reaches-refl xs)

pub Reaches-trans : (xs ys zs : List ℕ) → Reaches xs ys → Reaches ys zs → Reaches xs zs
Reaches-trans [] [] [] p q = tt
Reaches-trans [] [] (z ∷ zs) p q = absurd q
Reaches-trans [] (y ∷ ys) zs p q = absurd p
Reaches-trans (x ∷ xs) [] zs p q = absurd p
Reaches-trans (x ∷ xs) (y ∷ ys) [] p q = absurd q
Reaches-trans (x ∷ xs) (y ∷ ys) (z ∷ zs) p q = (le_trans q.0 p.0, Reaches-trans xs ys zs p.1 q.1)

pub is_valid : (m : ℕ → ℕ) (rings : List RingId) (k : List (RingId × ℕ)) → is_tuple_of m rings k ≡ true → is_valid_tuple m k ≡ true
is_valid m rings k h = (split_and (has_rings rings k) (is_valid_tuple m k) h).1

pub is_tuple : (m : ℕ → ℕ) (rings : List RingId) (k : List (RingId × ℕ)) → has_rings rings k ≡ true → is_valid_tuple m k ≡ true → is_tuple_of m rings k ≡ true
is_tuple m rings k h v = both_true (has_rings rings k) (is_valid_tuple m k) h v

pub reaches_is : (rings : List RingId) (a b : List (RingId × ℕ)) → has_rings rings a ≡ true → has_rings rings b ≡ true → is_at_or_after a b ≡ true → Reaches (instances a) (instances b)
reaches_is [] [] [] ha hb h = tt
reaches_is [] [] (y ∷ ys) ha hb h = absurd (true≢false (sym hb))
reaches_is [] (x ∷ xs) b ha hb h = absurd (true≢false (sym ha))
reaches_is (ring ∷ rings) [] b ha hb h = absurd (true≢false (sym ha))
reaches_is (ring ∷ rings) (x ∷ xs) [] ha hb h = absurd (true≢false (sym hb))
reaches_is (ring ∷ rings) (x ∷ xs) (y ∷ ys) ha hb h =
    let s = split_and (nat_le y.1 x.1) (is_at_or_after xs ys) h in
    (is_le y.1 x.1 s.0, reaches_is rings xs ys (later_rings ring rings x xs ha) (later_rings ring rings y ys hb) s.1)

pub is_reaches : (a b : List (RingId × ℕ)) → Reaches (instances a) (instances b) → is_at_or_after a b ≡ true
is_reaches [] [] r = refl
is_reaches [] (y ∷ ys) r = absurd r
is_reaches (x ∷ xs) [] r = absurd r
is_reaches (x ∷ xs) (y ∷ ys) r = both_true (nat_le y.1 x.1) (is_at_or_after xs ys) (le_is y.1 x.1 r.0) (is_reaches xs ys r.1)

pub or_false : (a b : Bool) → (a || b) ≡ false → (a ≡ false) × (b ≡ false)
or_false true b e = absurd (true≢false e)
or_false false b e = (refl, e)

pub or_true : (a b : Bool) → (a || b) ≡ true → (a ≡ true) ⊎ (b ≡ true)
or_true true b e = inl refl
or_true false b e = inr e

not_lt : (a b : ℕ) → nat_lt a b ≡ false → b ≤ a
not_lt a b e = grind (arith, nat_tests)

-- where none is after it, it is at or after
pub not_after : (rings : List RingId) (a b : List (RingId × ℕ)) → has_rings rings a ≡ true → has_rings rings b ≡ true → is_after a b ≡ false → Reaches (instances a) (instances b)
not_after [] [] [] ha hb h = tt
not_after [] [] (y ∷ ys) ha hb h = absurd (true≢false (sym hb))
not_after [] (x ∷ xs) b ha hb h = absurd (true≢false (sym ha))
not_after (ring ∷ rings) [] b ha hb h = absurd (true≢false (sym ha))
not_after (ring ∷ rings) (x ∷ xs) [] ha hb h = absurd (true≢false (sym hb))
not_after (ring ∷ rings) (x ∷ xs) (y ∷ ys) ha hb h =
    let s = or_false (nat_lt x.1 y.1) (is_after xs ys) h in
    (not_lt x.1 y.1 s.0, not_after rings xs ys (later_rings ring rings x xs ha) (later_rings ring rings y ys hb) s.1)

pub after_not : (a b : List (RingId × ℕ)) → is_after a b ≡ true → Reaches (instances a) (instances b) → ⊥
after_not [] ys h r = absurd (true≢false (sym h))
after_not (x ∷ xs) [] h r = absurd (true≢false (sym h))
after_not (x ∷ xs) (y ∷ ys) h r = elim (or_true (nat_lt x.1 y.1) (is_after xs ys) h) [
  | inl less ↦ not_both x.1 y.1 less r.0
  | inr later ↦ after_not xs ys later r.1
]
  where
    not_both : (a b : ℕ) → nat_lt a b ≡ true → b ≤ a → ⊥
    not_both a b e le = grind (arith, nat_tests)

-- a valid tuple that is after another is at or after it in every entry
pub after_reaches : (m : ℕ → ℕ) (rings : List RingId) (a b : List (RingId × ℕ)) → is_tuple_of m rings a ≡ true → is_tuple_of m rings b ≡ true → is_after a b ≡ true → Reaches (instances b) (instances a)
after_reaches m rings a b ta tb h = elim (one_reaches m rings a b ta tb) [
  | inl ab ↦ absurd (after_not a b h (reaches_is rings a b (rings_fit m rings a ta) (rings_fit m rings b tb) ab))
  | inr ba ↦ reaches_is rings b a (rings_fit m rings b tb) (rings_fit m rings a ta) ba
]

-- tuples that are the same by the test are one
pub same_tuple : (rings : List RingId) (a b : List (RingId × ℕ)) → is_same_tuple a b ≡ true → a ≡ b
same_tuple rings [] [] e = refl
same_tuple rings [] (y ∷ ys) e = absurd (true≢false (sym e))
same_tuple rings (x ∷ xs) [] e = absurd (true≢false (sym e))
same_tuple rings (x ∷ xs) (y ∷ ys) e =
    let s = split_and (x.0.0 == y.0.0) ((x.1 == y.1) && is_same_tuple xs ys) e in
    let t = split_and (x.1 == y.1) (is_same_tuple xs ys) s.1 in
    by_parts_of_list x y xs ys (by_entries x y (same_number x.0.0 y.0.0 s.0) (same_number x.1 y.1 t.0)) (same_tuple rings xs ys t.1)
