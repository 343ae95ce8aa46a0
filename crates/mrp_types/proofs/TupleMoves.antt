-- A valid tuple is reached by moves: each of them adds one to the places below it.
use Rattle.std.proofs.Common.{arith, ◌≡◌, ◌<◌, ◌≤◌, ◌⊎◌, inl, inr, ℕ, zero, suc, ◌+◌, ◌==◌, ◌&&◌, Bool, true, false, if◌then◌else◌, IsTrue, nat_le, List, [], ◌∷◌, map, refl, sym, ap, true≢false, ◌∙◌, subst}
use Rattle.std.proofs.Math.Path.{ap₂}
use Rattle.std.proofs.lemmas.List.Sums.{sum_by-cons}
use Rattle.mrp_types.specs.declared.id.RingId.{RingId}
use Rattle.mrp_types.specs.Rings.{IncreasesFrom, numbers_of_rings}
use Rattle.mrp_types.specs.Moves.{next_place, moved_past, past, past_many, first_tuple, is_at_or_after, is_valid_tuple, has_rings, is_tuple_of, IsOneOf, count_below, rings_of}
use Rattle.mrp_types.proofs.TupleOrder.{split_and, both_true, same_number, other_number, next_is_one, past_many_valid}
use Rattle.mrp_types.proofs.TupleChain.{is_le, one_reaches, same_first, later_rings, by_entries, by_parts_of_list}

-- ---- rings

pub by_number : (a b : RingId) → a.0 ≡ b.0 → a ≡ b
by_number a b same = let made : ℕ → RingId = λ r. record { 0 = r } in ap made same

abbrev pub Rises : ℕ → List (RingId × ℕ) → Type 0
Rises least [] = Unit {0}
Rises least (x ∷ pairs) = (least ≤ x.0.0) × Rises (x.0.0 + 1) pairs

first_ring : (ring : RingId) (rings : List RingId) (x : RingId × ℕ) (pairs : List (RingId × ℕ)) → has_rings (ring ∷ rings) (x ∷ pairs) ≡ true → ring.0 ≡ x.0.0
first_ring ring rings x pairs h = same_number ring.0 x.0.0 (split_and (ring.0 == x.0.0) (has_rings rings pairs) h).0

pub rises_of : (least : ℕ) (rings : List RingId) (tuple : List (RingId × ℕ)) → IncreasesFrom least (numbers_of_rings rings) → has_rings rings tuple ≡ true → Rises least tuple
rises_of least [] [] rise has = tt
rises_of least [] (x ∷ pairs) rise has = absurd (true≢false (sym has))
rises_of least (ring ∷ rings) [] rise has = absurd (true≢false (sym has))
rises_of least (ring ∷ rings) (x ∷ pairs) rise has =
    let same = first_ring ring rings x pairs has in (
      omega (arith, same, rise.0),
      rises_of (x.0.0 + 1) rings pairs (subst (λ (n : ℕ). IncreasesFrom (n + 1) (numbers_of_rings rings)) same rise.1) (later_rings ring rings x pairs has),
    )

not_among : (least : ℕ) (pair : RingId × ℕ) (tuple : List (RingId × ℕ)) → Rises least tuple → pair.0.0 < least → IsOneOf pair tuple → ⊥
not_among least pair [] rise less one = one
not_among least pair (x ∷ pairs) rise less (inl same) = omega (arith, rise.0, less, ap (λ (y : RingId × ℕ). y.0.0) same)
not_among least pair (x ∷ pairs) rise less (inr there) = not_among (x.0.0 + 1) pair pairs rise.1 (omega (arith, rise.0, less)) there

unmoved : (least : ℕ) (pair : RingId × ℕ) (tuple : List (RingId × ℕ)) → Rises least tuple → pair.0.0 < least → moved_past pair tuple ≡ tuple
unmoved least pair [] rise less = refl
unmoved least pair (x ∷ pairs) rise less =
    by (x.0.0 == pair.0.0) refl (unmoved (x.0.0 + 1) pair pairs rise.1 (omega (arith, rise.0, less)))
  where
    by : (t : Bool) → (x.0.0 == pair.0.0) ≡ t → moved_past pair pairs ≡ pairs → (if t then (x.0, pair.1 + 1) else x) ∷ moved_past pair pairs ≡ x ∷ pairs
    by true e later = absurd (omega (arith, rise.0, less, same_number x.0.0 pair.0.0 e))
    by false e later = ap (λ (l : List (RingId × ℕ)). x ∷ l) later

count_cons : (x : RingId × ℕ) (pairs : List (RingId × ℕ)) → count_below (x ∷ pairs) ≡ x.1 + count_below pairs
count_cons x pairs = sum_by-cons (λ (n : ℕ). n) x.1 (map (λ (y : RingId × ℕ). y.1) pairs)

count_moved : (least : ℕ) (pair : RingId × ℕ) (tuple : List (RingId × ℕ)) → Rises least tuple → IsOneOf pair tuple → count_below (moved_past pair tuple) ≡ suc (count_below tuple)
count_moved least pair [] rise one = absurd one
count_moved least pair (x ∷ pairs) rise one = by (x.0.0 == pair.0.0) refl one (λ there. count_moved (x.0.0 + 1) pair pairs rise.1 there)
  where
    moved : List (RingId × ℕ)
    moved = moved_past pair pairs

    by : (t : Bool) → (x.0.0 == pair.0.0) ≡ t → IsOneOf pair (x ∷ pairs) → (IsOneOf pair pairs → count_below (moved_past pair pairs) ≡ suc (count_below pairs)) →
        count_below ((if t then (x.0, pair.1 + 1) else x) ∷ moved_past pair pairs) ≡ suc (count_below (x ∷ pairs))
    by true e (inl same) later =
        let still = ap count_below (unmoved (x.0.0 + 1) pair pairs rise.1 (omega (arith, same_number x.0.0 pair.0.0 e))) in
        omega (arith, still, ap (λ (y : RingId × ℕ). y.1) same, count_cons (x.0, pair.1 + 1) moved, count_cons x pairs)
    by true e (inr there) later = absurd (not_among (x.0.0 + 1) pair pairs rise.1 (omega (arith, same_number x.0.0 pair.0.0 e)) there)
    by false e (inl same) later = absurd (other_number x.0.0 pair.0.0 e (sym (ap (λ (y : RingId × ℕ). y.0.0) same)))
    by false e (inr there) later = omega (arith, later there, count_cons x moved, count_cons x pairs)

pub rings_moved : (pair : RingId × ℕ) (tuple : List (RingId × ℕ)) → rings_of (moved_past pair tuple) ≡ rings_of tuple
rings_moved pair [] = refl
rings_moved pair (x ∷ pairs) = by (x.0.0 == pair.0.0) (rings_moved pair pairs)
  where
    by : (t : Bool) → rings_of (moved_past pair pairs) ≡ rings_of pairs → rings_of ((if t then (x.0, pair.1 + 1) else x) ∷ moved_past pair pairs) ≡ x.0 ∷ rings_of pairs
    by true later = ap (λ (l : List RingId). x.0 ∷ l) later
    by false later = ap (λ (l : List RingId). x.0 ∷ l) later

pub has_moved : (rings : List RingId) (pair : RingId × ℕ) (tuple : List (RingId × ℕ)) → has_rings rings (moved_past pair tuple) ≡ has_rings rings tuple
has_moved [] pair [] = refl
has_moved [] pair (x ∷ pairs) = refl
has_moved (ring ∷ rings) pair [] = refl
has_moved (ring ∷ rings) pair (x ∷ pairs) = by (x.0.0 == pair.0.0) (has_moved rings pair pairs)
  where
    by : (t : Bool) → has_rings rings (moved_past pair pairs) ≡ has_rings rings pairs →
        has_rings (ring ∷ rings) ((if t then (x.0, pair.1 + 1) else x) ∷ moved_past pair pairs) ≡ ((ring.0 == x.0.0) && has_rings rings pairs)
    by true later = ap (λ (t : Bool). (ring.0 == x.0.0) && t) later
    by false later = ap (λ (t : Bool). (ring.0 == x.0.0) && t) later

pub has_itself : (tuple : List (RingId × ℕ)) (rings : List RingId) → has_rings rings tuple ≡ true → rings_of tuple ≡ rings
has_itself [] [] h = refl
has_itself [] (ring ∷ rings) h = absurd (true≢false (sym h))
has_itself (x ∷ pairs) [] h = absurd (true≢false (sym h))
has_itself (x ∷ pairs) (ring ∷ rings) h =
    ap₂ (λ (r : RingId) (l : List RingId). r ∷ l) (sym (by_number ring x.0 (first_ring ring rings x pairs h))) (has_itself pairs rings (later_rings ring rings x pairs h))

pub itself : (n : ℕ) → IsTrue (n == n)
itself n = grind arith

first_has : (rings : List RingId) → has_rings rings (first_tuple rings) ≡ true
first_has [] = refl
first_has (ring ∷ rings) = both_true (ring.0 == ring.0) (has_rings rings (first_tuple rings)) (itself ring.0) (first_has rings)

pub first_count : (rings : List RingId) → count_below (first_tuple rings) ≡ 0
first_count [] = refl
first_count (ring ∷ rings) = omega (arith, count_cons (ring, 0) (first_tuple rings), first_count rings)

-- ---- moves

pub count_past : (m : ℕ → ℕ) (ring : RingId) (rings : List RingId) (tuple : List (RingId × ℕ)) → IncreasesFrom 0 (numbers_of_rings (ring ∷ rings)) → has_rings (ring ∷ rings) tuple ≡ true →
    count_below (past m tuple) ≡ suc (count_below tuple)
count_past m ring rings [] rise has = absurd (true≢false (sym has))
count_past m ring rings (x ∷ pairs) rise has = count_moved 0 (next_place m (x ∷ pairs)) (x ∷ pairs) (rises_of 0 (ring ∷ rings) (x ∷ pairs) rise has) (next_is_one m x pairs)

pub has_past : (m : ℕ → ℕ) (rings : List RingId) (tuple : List (RingId × ℕ)) → has_rings rings tuple ≡ true → has_rings rings (past m tuple) ≡ true
has_past m rings tuple has = has_moved rings (next_place m tuple) tuple ∙ has

pub has_many : (m : ℕ → ℕ) (n : ℕ) (rings : List RingId) (tuple : List (RingId × ℕ)) → has_rings rings tuple ≡ true → has_rings rings (past_many m n tuple) ≡ true
has_many m zero rings tuple has = has
has_many m (suc n) rings tuple has = has_many m n rings (past m tuple) (has_past m rings tuple has)

pub count_many : (m : ℕ → ℕ) (n : ℕ) (ring : RingId) (rings : List RingId) (tuple : List (RingId × ℕ)) → IncreasesFrom 0 (numbers_of_rings (ring ∷ rings)) → has_rings (ring ∷ rings) tuple ≡ true →
    count_below (past_many m n tuple) ≡ n + count_below tuple
count_many m zero ring rings tuple rise has = omega arith
count_many m (suc n) ring rings tuple rise has =
    omega (arith, count_many m n ring rings (past m tuple) rise (has_past m (ring ∷ rings) tuple has), count_past m ring rings tuple rise has)

-- ---- two tuples with as many places below, one at or after the other, are one

pub fewer : (rings : List RingId) (a b : List (RingId × ℕ)) → has_rings rings a ≡ true → has_rings rings b ≡ true → is_at_or_after a b ≡ true → count_below b ≤ count_below a
fewer [] [] [] ha hb after = omega arith
fewer [] [] (y ∷ ys) ha hb after = absurd (true≢false (sym hb))
fewer [] (x ∷ xs) b ha hb after = absurd (true≢false (sym ha))
fewer (ring ∷ rings) [] b ha hb after = absurd (true≢false (sym ha))
fewer (ring ∷ rings) (x ∷ xs) [] ha hb after = absurd (true≢false (sym hb))
fewer (ring ∷ rings) (x ∷ xs) (y ∷ ys) ha hb after =
    let s = split_and (nat_le y.1 x.1) (is_at_or_after xs ys) after in
    omega (arith, count_cons x xs, count_cons y ys, is_le y.1 x.1 s.0, fewer rings xs ys (later_rings ring rings x xs ha) (later_rings ring rings y ys hb) s.1)

same_count : (rings : List RingId) (a b : List (RingId × ℕ)) → has_rings rings a ≡ true → has_rings rings b ≡ true → is_at_or_after a b ≡ true → count_below a ≡ count_below b → a ≡ b
same_count [] [] [] ha hb after same = refl
same_count [] [] (y ∷ ys) ha hb after same = absurd (true≢false (sym hb))
same_count [] (x ∷ xs) b ha hb after same = absurd (true≢false (sym ha))
same_count (ring ∷ rings) [] b ha hb after same = absurd (true≢false (sym ha))
same_count (ring ∷ rings) (x ∷ xs) [] ha hb after same = absurd (true≢false (sym hb))
same_count (ring ∷ rings) (x ∷ xs) (y ∷ ys) ha hb after same =
    let s = split_and (nat_le y.1 x.1) (is_at_or_after xs ys) after in
    let le = is_le y.1 x.1 s.0 in
    let less = fewer rings xs ys (later_rings ring rings x xs ha) (later_rings ring rings y ys hb) s.1 in
    let entry : x.1 ≡ y.1 = omega (arith, count_cons x xs, count_cons y ys, le, less, same) in
    let rest : count_below xs ≡ count_below ys = omega (arith, count_cons x xs, count_cons y ys, le, less, same) in
    by_parts_of_list x y xs ys (by_entries x y (same_first ring rings x y xs ys ha hb) entry)
    (same_count rings xs ys (later_rings ring rings x xs ha) (later_rings ring rings y ys hb) s.1 rest)

-- a valid tuple is what moves past as many places as are below it leave of the first one
pub reached : (m : ℕ → ℕ) (rings : List RingId) (tuple : List (RingId × ℕ)) → IncreasesFrom 0 (numbers_of_rings rings) → is_tuple_of m rings tuple ≡ true →
    past_many m (count_below tuple) (first_tuple rings) ≡ tuple
reached m [] [] rise is = refl
reached m [] (x ∷ pairs) rise is = absurd (true≢false (sym is))
reached m (ring ∷ rings) tuple rise is = by (one_reaches m (ring ∷ rings) moved tuple moved_is is)
  where
    moved : List (RingId × ℕ)
    moved = past_many m (count_below tuple) (first_tuple (ring ∷ rings))

    has : has_rings (ring ∷ rings) tuple ≡ true
    has = (split_and (has_rings (ring ∷ rings) tuple) (is_valid_tuple m tuple) is).0

    moved_has : has_rings (ring ∷ rings) (past_many m (count_below tuple) (first_tuple (ring ∷ rings))) ≡ true
    moved_has = has_many m (count_below tuple) (ring ∷ rings) (first_tuple (ring ∷ rings)) (first_has (ring ∷ rings))

    moved_is : is_tuple_of m (ring ∷ rings) (past_many m (count_below tuple) (first_tuple (ring ∷ rings))) ≡ true
    moved_is = both_true (has_rings (ring ∷ rings) (past_many m (count_below tuple) (first_tuple (ring ∷ rings)))) (is_valid_tuple m (past_many m (count_below tuple) (first_tuple (ring ∷ rings))))
        moved_has (past_many_valid m (count_below tuple) (ring ∷ rings))

    same : count_below (past_many m (count_below tuple) (first_tuple (ring ∷ rings))) ≡ count_below tuple
    same = omega (arith, count_many m (count_below tuple) ring rings (first_tuple (ring ∷ rings)) rise (first_has (ring ∷ rings)), first_count (ring ∷ rings))

    by : (is_at_or_after (past_many m (count_below tuple) (first_tuple (ring ∷ rings))) tuple ≡ true) ⊎ (is_at_or_after tuple (past_many m (count_below tuple) (first_tuple (ring ∷ rings))) ≡ true) →
        past_many m (count_below tuple) (first_tuple (ring ∷ rings)) ≡ tuple
    by (inl after) = same_count (ring ∷ rings) (past_many m (count_below tuple) (first_tuple (ring ∷ rings))) tuple moved_has has after same
    by (inr after) = sym (same_count (ring ∷ rings) tuple (past_many m (count_below tuple) (first_tuple (ring ∷ rings))) has moved_has after (sym same))
