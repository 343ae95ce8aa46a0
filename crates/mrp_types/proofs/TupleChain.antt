-- Valid tuples of the same rings stand in one order.
use Rattle.std.proofs.Common.{arith, ◌≡◌, ◌<◌, ◌≤◌, ◌⊎◌, inl, inr, ℕ, ◌==◌, ◌&&◌, Bool, true, false, IsTrue, nat_le, List, [], ◌∷◌, refl, sym, true≢false, ◌∙◌}
use Rattle.std.specs.Prelude.{not}
use Rattle.std.proofs.Math.Path.{ap₂}
use Rattle.std.proofs.lemmas.Bool.{cases_lt}
use Rattle.mrp_types.specs.declared.id.RingId.{RingId}
use Rattle.mrp_types.specs.declared.place.Place.{Place}
use Rattle.mrp_types.specs.Places.{place_lt}
use Rattle.mrp_types.proofs.PlaceOrder.{in_one_order}
use Rattle.mrp_types.specs.Moves.{is_at_or_after, tuple_before, is_valid_tuple, has_rings, is_tuple_of, IsBelow, IsNotBelow}
use Rattle.mrp_types.proofs.TupleOrder.{split_and, both_true, false_not_true, before_chain, valid_is_front, same_number}

pub le_is : (a b : ℕ) → a ≤ b → IsTrue (nat_le a b)
le_is a b le = grind arith

pub is_le : (a b : ℕ) → IsTrue (nat_le a b) → a ≤ b
is_le a b h = grind arith

-- two tuples of the same rings have the same ring first
pub same_first : (ring : RingId) (rings : List RingId) (x y : RingId × ℕ) (xs ys : List (RingId × ℕ)) → has_rings (ring ∷ rings) (x ∷ xs) ≡ true → has_rings (ring ∷ rings) (y ∷ ys) ≡ true →
    x.0.0 ≡ y.0.0
same_first ring rings x y xs ys hx hy =
    sym (same_number ring.0 x.0.0 (split_and (ring.0 == x.0.0) (has_rings rings xs) hx).0)
    ∙ same_number ring.0 y.0.0 (split_and (ring.0 == y.0.0) (has_rings rings ys) hy).0

pub later_rings : (ring : RingId) (rings : List RingId) (x : RingId × ℕ) (xs : List (RingId × ℕ)) → has_rings (ring ∷ rings) (x ∷ xs) ≡ true → has_rings rings xs ≡ true
later_rings ring rings x xs h = (split_and (ring.0 == x.0.0) (has_rings rings xs) h).1

-- a place that is below the second tuple and not below the first
abbrev pub Apart : List (RingId × ℕ) → List (RingId × ℕ) → Type 0
Apart a b = (p : Place) × (IsBelow p b × IsNotBelow p a)

-- the first tuple is at or after the second, or some place is below the second alone
pub or_apart : (rings : List RingId) (a b : List (RingId × ℕ)) → has_rings rings a ≡ true → has_rings rings b ≡ true → (is_at_or_after a b ≡ true) ⊎ Apart a b
or_apart rings [] b ha hb = inl refl
or_apart rings (x ∷ xs) [] ha hb = inl refl
or_apart [] (x ∷ xs) (y ∷ ys) ha hb = absurd (true≢false (sym ha))
or_apart (ring ∷ rings) (x ∷ xs) (y ∷ ys) ha hb =
    by (cases_lt x.1 y.1) (or_apart rings xs ys (later_rings ring rings x xs ha) (later_rings ring rings y ys hb))
  where
    by : (x.1 < y.1) ⊎ (y.1 ≤ x.1) → (is_at_or_after xs ys ≡ true) ⊎ Apart xs ys → (is_at_or_after (x ∷ xs) (y ∷ ys) ≡ true) ⊎ Apart (x ∷ xs) (y ∷ ys)
    by (inl less) later =
        let p : Place = record { ring = x.0; inst = x.1 } in
        inr (p, (inl (same_first ring rings x y xs ys ha hb, less), inl (refl, omega arith)))
    by (inr le) (inr w) = inr (w.0, (inr w.1.0, inr w.1.1))
    by (inr le) (inl rest) = inl (both_true (nat_le y.1 x.1) (is_at_or_after xs ys) (le_is y.1 x.1 le) rest)

-- two places can't be below one of two valid tuples each and not below the other
not_crossing : (m : ℕ → ℕ) (a b : List (RingId × ℕ)) → is_valid_tuple m a ≡ true → is_valid_tuple m b ≡ true → Apart a b → Apart b a → ⊥
not_crossing m a b va vb p q =
    false_not_true (place_lt m q.0 q.0) ((in_one_order m).irreflexive q.0)
    (before_chain m q.0 p.0 q.0 (valid_is_front m a va q.0 p.0 q.1.0 p.1.1) (valid_is_front m b vb p.0 q.0 p.1.0 q.1.1))

-- of two valid tuples of the same rings one is at or after the other
pub one_reaches : (m : ℕ → ℕ) (rings : List RingId) (a b : List (RingId × ℕ)) → is_tuple_of m rings a ≡ true → is_tuple_of m rings b ≡ true →
    (is_at_or_after a b ≡ true) ⊎ (is_at_or_after b a ≡ true)
one_reaches m rings a b ta tb = by (or_apart rings a b (parts_a).0 (parts_b).0) (or_apart rings b a (parts_b).0 (parts_a).0)
  where
    parts_a : IsTrue (has_rings rings a) × IsTrue (is_valid_tuple m a)
    parts_a = split_and (has_rings rings a) (is_valid_tuple m a) ta

    parts_b : IsTrue (has_rings rings b) × IsTrue (is_valid_tuple m b)
    parts_b = split_and (has_rings rings b) (is_valid_tuple m b) tb

    by : (is_at_or_after a b ≡ true) ⊎ Apart a b → (is_at_or_after b a ≡ true) ⊎ Apart b a → (is_at_or_after a b ≡ true) ⊎ (is_at_or_after b a ≡ true)
    by (inl reaches) other = inl reaches
    by (inr p) (inl reaches) = inr reaches
    by (inr p) (inr q) = absurd (not_crossing m a b parts_a.1 parts_b.1 p q)

-- being at or after goes on
pub reaches_chain : (rings : List RingId) (a b c : List (RingId × ℕ)) → has_rings rings a ≡ true → has_rings rings b ≡ true → has_rings rings c ≡ true →
    is_at_or_after a b ≡ true → is_at_or_after b c ≡ true → is_at_or_after a c ≡ true
reaches_chain rings [] b c ha hb hc ab bc = refl
reaches_chain rings (x ∷ xs) b [] ha hb hc ab bc = refl
reaches_chain [] (x ∷ xs) b (z ∷ zs) ha hb hc ab bc = absurd (true≢false (sym ha))
reaches_chain (ring ∷ rings) (x ∷ xs) [] (z ∷ zs) ha hb hc ab bc = absurd (true≢false (sym hb))
reaches_chain (ring ∷ rings) (x ∷ xs) (y ∷ ys) (z ∷ zs) ha hb hc ab bc =
    let first = split_and (nat_le y.1 x.1) (is_at_or_after xs ys) ab in
    let second = split_and (nat_le z.1 y.1) (is_at_or_after ys zs) bc in
    let low : z.1 ≤ y.1 = is_le z.1 y.1 second.0 in
    let high : y.1 ≤ x.1 = is_le y.1 x.1 first.0 in
    both_true (nat_le z.1 x.1) (is_at_or_after xs zs) (le_is z.1 x.1 (omega arith))
    (reaches_chain rings xs ys zs (later_rings ring rings x xs ha) (later_rings ring rings y ys hb) (later_rings ring rings z zs hc) first.1 second.1)

pub by_entries : (x y : RingId × ℕ) → x.0.0 ≡ y.0.0 → x.1 ≡ y.1 → x ≡ y
by_entries x y ring inst =
    let made : ℕ → ℕ → RingId × ℕ = λ r i. ((record { 0 = r }), i) in
    ap₂ made ring inst

pub by_parts_of_list : (x y : RingId × ℕ) (xs ys : List (RingId × ℕ)) → x ≡ y → xs ≡ ys → x ∷ xs ≡ y ∷ ys
by_parts_of_list x y xs ys first rest = cc

-- two tuples of the same rings that are each at or after the other are one
pub reaches_same : (rings : List RingId) (a b : List (RingId × ℕ)) → has_rings rings a ≡ true → has_rings rings b ≡ true → is_at_or_after a b ≡ true → is_at_or_after b a ≡ true → a ≡ b
reaches_same [] [] [] ha hb ab ba = refl
reaches_same [] [] (y ∷ ys) ha hb ab ba = absurd (true≢false (sym hb))
reaches_same [] (x ∷ xs) b ha hb ab ba = absurd (true≢false (sym ha))
reaches_same (ring ∷ rings) [] b ha hb ab ba = absurd (true≢false (sym ha))
reaches_same (ring ∷ rings) (x ∷ xs) [] ha hb ab ba = absurd (true≢false (sym hb))
reaches_same (ring ∷ rings) (x ∷ xs) (y ∷ ys) ha hb ab ba =
    let first = split_and (nat_le y.1 x.1) (is_at_or_after xs ys) ab in
    let second = split_and (nat_le x.1 y.1) (is_at_or_after ys xs) ba in
    let low : y.1 ≤ x.1 = is_le y.1 x.1 first.0 in
    let high : x.1 ≤ y.1 = is_le x.1 y.1 second.0 in
    by_parts_of_list x y xs ys (by_entries x y (same_first ring rings x y xs ys ha hb) (omega arith))
    (reaches_same rings xs ys (later_rings ring rings x xs ha) (later_rings ring rings y ys hb) first.1 second.1)

pub before_by : (p q : Bool) → p ≡ true → q ≡ false → (p && not q) ≡ true
before_by true false hp hq = refl
before_by true true hp hq = absurd (true≢false hq)
before_by false q hp hq = absurd (true≢false (sym hp))

-- of two valid tuples of the same rings one is before the other, or they are one
pub before_or_same : (m : ℕ → ℕ) (rings : List RingId) (a b : List (RingId × ℕ)) → is_tuple_of m rings a ≡ true → is_tuple_of m rings b ≡ true →
    (tuple_before a b ≡ true) ⊎ ((a ≡ b) ⊎ (tuple_before b a ≡ true))
before_or_same m rings a b ta tb = by (is_at_or_after a b) (is_at_or_after b a) refl refl (one_reaches m rings a b ta tb)
  where
    by : (p q : Bool) → is_at_or_after a b ≡ p → is_at_or_after b a ≡ q → (is_at_or_after a b ≡ true) ⊎ (is_at_or_after b a ≡ true) →
        (tuple_before a b ≡ true) ⊎ ((a ≡ b) ⊎ (tuple_before b a ≡ true))
    by true true ep eq any =
        inr (inl (reaches_same rings a b (split_and (has_rings rings a) (is_valid_tuple m a) ta).0 (split_and (has_rings rings b) (is_valid_tuple m b) tb).0 ep eq))
    by true false ep eq any = inr (inr (before_by (is_at_or_after a b) (is_at_or_after b a) ep eq))
    by false true ep eq any = inl (before_by (is_at_or_after b a) (is_at_or_after a b) eq ep)
    by false false ep eq (inl reaches) = absurd (true≢false (sym reaches ∙ ep))
    by false false ep eq (inr reaches) = absurd (true≢false (sym reaches ∙ eq))
