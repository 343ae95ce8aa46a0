-- The tests of two tuples.
use Rattle.std.proofs.Common.{arith, ◌≡◌, ◌<◌, ◌≤◌, ◌⊎◌, ◌↔◌, inl, inr, ℕ, ◌==◌, ◌&&◌, Bool, true, false, nat_lt, nat_le, List, [], ◌∷◌, refl, sym, true≢false, ◌∙◌, subst}
use Rattle.std.specs.Prelude.{not, ◌||◌}
use Rattle.std.proofs.lemmas.Bool.{cases_lt}
use Rattle.mrp_types.specs.declared.id.RingId.{RingId}
use Rattle.plain_model.specs.Tuples.{is_at_or_after, tuple_before, is_valid_tuple, has_rings, is_tuple_of}
use Rattle.plain_model.proofs.TupleOrder.{split_and, both_true, same_number}
use Rattle.plain_model.proofs.TupleChain.{one_reaches, later_rings, by_entries, by_parts_of_list}
use Rattle.checkpoint.specs.Checkpoints.{is_same_tuple, is_after}

one_entry : (i j : ℕ) (p q : Bool) → p ≡ not q → (nat_lt i j || p) ≡ not (nat_le j i && q)
one_entry i j p q same = by (nat_lt i j) (nat_le j i) refl refl (cases_lt i j)
  where
    by : (t u : Bool) → nat_lt i j ≡ t → nat_le j i ≡ u → (i < j) ⊎ (j ≤ i) → (t || p) ≡ not (u && q)
    by true false et eu any = refl
    by false true et eu any = same
    by true true et eu any = absurd (both i j et eu)
      where
        both : (i j : ℕ) → nat_lt i j ≡ true → nat_le j i ≡ true → ⊥
        both i j less le = grind arith
    by false false et eu any = absurd (neither i j et eu)
      where
        neither : (i j : ℕ) → nat_lt i j ≡ false → nat_le j i ≡ false → ⊥
        neither i j less le = grind arith

-- a tuple is after another of the same rings where that one isn't at or after it
after_is_not : (rings : List RingId) (a b : List (RingId × ℕ)) → has_rings rings a ≡ true → has_rings rings b ≡ true → is_after a b ≡ not (is_at_or_after a b)
after_is_not rings [] b ha hb = refl
after_is_not rings (x ∷ xs) [] ha hb = refl
after_is_not [] (x ∷ xs) (y ∷ ys) ha hb = absurd (true≢false (sym ha))
after_is_not (ring ∷ rings) (x ∷ xs) (y ∷ ys) ha hb =
    one_entry x.1 y.1 (is_after xs ys) (is_at_or_after xs ys) (after_is_not rings xs ys (later_rings ring rings x xs ha) (later_rings ring rings y ys hb))

joined : (p q : Bool) → (p ≡ true) ⊎ (q ≡ true) → not p ≡ (q && not p)
joined true true any = refl
joined true false any = refl
joined false true any = refl
joined false false (inl h) = absurd (true≢false (sym h))
joined false false (inr h) = absurd (true≢false (sym h))

pub after-before : (m : ℕ → ℕ) (rings : List RingId) (a b : List (RingId × ℕ)) → is_tuple_of m rings a ≡ true → is_tuple_of m rings b ≡ true → is_after a b ≡ tuple_before a b
after-before m rings a b ta tb =
    after_is_not rings a b (split_and (has_rings rings a) (is_valid_tuple m a) ta).0 (split_and (has_rings rings b) (is_valid_tuple m b) tb).0
    ∙ joined (is_at_or_after a b) (is_at_or_after b a) (one_reaches m rings a b ta tb)

-- ---- the same tuple

is_itself : (n : ℕ) → (n == n) ≡ true
is_itself n = grind arith

same_as_itself : (a : List (RingId × ℕ)) → is_same_tuple a a ≡ true
same_as_itself [] = refl
same_as_itself (x ∷ xs) =
    both_true (x.0.0 == x.0.0) ((x.1 == x.1) && is_same_tuple xs xs) (is_itself x.0.0)
    (both_true (x.1 == x.1) (is_same_tuple xs xs) (is_itself x.1) (same_as_itself xs))

pub same-one : (a b : List (RingId × ℕ)) → is_same_tuple a b ≡ true → a ≡ b
same-one [] [] h = refl
same-one [] (y ∷ ys) h = absurd (true≢false (sym h))
same-one (x ∷ xs) [] h = absurd (true≢false (sym h))
same-one (x ∷ xs) (y ∷ ys) h =
    let first = split_and (x.0.0 == y.0.0) ((x.1 == y.1) && is_same_tuple xs ys) h in
    let rest = split_and (x.1 == y.1) (is_same_tuple xs ys) first.1 in
    by_parts_of_list x y xs ys (by_entries x y (same_number x.0.0 y.0.0 first.0) (same_number x.1 y.1 rest.0)) (same-one xs ys rest.1)

pub same-is : (a b : List (RingId × ℕ)) → (is_same_tuple a b ≡ true) ↔ (a ≡ b)
same-is a b = (same-one a b, λ same. subst (λ (c : List (RingId × ℕ)). is_same_tuple a c ≡ true) same (same_as_itself a))
