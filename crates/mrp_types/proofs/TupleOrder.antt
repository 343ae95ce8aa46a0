-- Tuples and the one order of places.
use Rattle.std.proofs.Common.{arith, ◌≡◌, ◌<◌, ◌≤◌, ◌⊎◌, inl, inr, ℕ, zero, suc, ◌+◌, ◌/◌, ◌==◌, ◌&&◌, Bool, true, false, if◌then◌else◌, IsTrue, nat_lt, List, [], ◌∷◌, refl, sym, ap, true≢false, ◌∙◌, subst}
use Rattle.std.proofs.Math.Path.{ap₂}
use Rattle.std.proofs.lemmas.Bool.{cases_order}
use Rattle.std.proofs.Math.Nat.{div-zero, div-mul-le_self}
use Rattle.std.proofs.lemmas.Nat.{le-div}
use Rattle.mrp_types.specs.declared.id.RingId.{RingId}
use Rattle.mrp_types.specs.declared.place.Place.{Place}
use Rattle.mrp_types.specs.Places.{lt_then, place_lt}
use Rattle.mrp_types.proofs.PlaceOrder.{in_one_order}
use Rattle.mrp_types.specs.Moves.{place_of, earlier, next_place, moved_past, past, past_many, first_tuple, is_last_before, are_lasts_before, is_valid_tuple, IsOneOf, IsBelow, IsNotBelow, IsFront}

div-le : (i j m : ℕ) → i ≤ j → i / m ≤ j / m
div-le i j zero le = omega (arith, div-zero i, div-zero j)
div-le i j (suc m) le = le-div (i / suc m) j (suc m) (omega arith) (omega (arith, div-mul-le_self i (suc m), le))

-- where the first number isn't below, the rest decides
rest_of : (a b : ℕ) (rest : Bool) → b ≤ a → IsTrue (lt_then a b rest) → IsTrue rest
rest_of a b rest above before = grind arith

not_lt : (i j : ℕ) → j ≤ i → IsTrue (nat_lt i j) → ⊥
not_lt i j le before = grind arith

not_before_there : (m : ℕ → ℕ) (r s i j : ℕ) → r ≡ s → j ≤ i → IsTrue (lt_then (i / m r) (j / m s) (lt_then r s (nat_lt i j))) → ⊥
not_before_there m r s i j same le before =
    not_lt i j le (rest_of r s (nat_lt i j) (omega (arith, same))
    (rest_of (i / m r) (j / m s) (lt_then r s (nat_lt i j)) (subst (λ (t : ℕ). j / m t ≤ i / m r) same (div-le j i (m r) le)) before))

-- no place of a ring comes before one of an instance that isn't greater
pub not_before : (m : ℕ → ℕ) (a b : Place) → a.ring.0 ≡ b.ring.0 → b.inst ≤ a.inst → IsTrue (place_lt m a b) → ⊥
not_before m a b same le before = not_before_there m a.ring.0 b.ring.0 a.inst b.inst same le before

-- ---- the order, with "isn't before" as its other half

pub before_chain : (m : ℕ → ℕ) (a b c : Place) → IsTrue (place_lt m a b) → IsTrue (place_lt m b c) → IsTrue (place_lt m a c)
before_chain m a b c first second = (in_one_order m).transitive a b c first second

-- a isn't behind b, which is before c
pub not_behind : (m : ℕ → ℕ) (a b c : Place) → (IsTrue (place_lt m b a) → ⊥) → IsTrue (place_lt m b c) → IsTrue (place_lt m a c)
not_behind m a b c not second = elim ((in_one_order m).total a b) [
  | inl first ↦ before_chain m a b c first second
  | inr (inl same) ↦ subst (λ (x : Place). IsTrue (place_lt m x c)) (sym same) second
  | inr (inr behind) ↦ absurd (not behind)
]

-- a is before b, which isn't behind c
pub before_not : (m : ℕ → ℕ) (a b c : Place) → IsTrue (place_lt m a b) → (IsTrue (place_lt m c b) → ⊥) → IsTrue (place_lt m a c)
before_not m a b c first not = elim ((in_one_order m).total b c) [
  | inl second ↦ before_chain m a b c first second
  | inr (inl same) ↦ subst (λ (x : Place). IsTrue (place_lt m a x)) same first
  | inr (inr behind) ↦ absurd (not behind)
]

-- ---- the next place

pub false_not_true : (t : Bool) → t ≡ false → IsTrue t → ⊥
false_not_true t e h = true≢false (sym h ∙ e)

earlier_by : (m : ℕ → ℕ) (p : Place) (a b : RingId × ℕ) (t : Bool) → place_lt m (place_of b) (place_of a) ≡ t →
    IsTrue (place_lt m p (place_of (if t then b else a))) → IsTrue (place_lt m p (place_of a)) × IsTrue (place_lt m p (place_of b))
earlier_by m p a b true e before = (before_chain m p (place_of b) (place_of a) before e, before)
earlier_by m p a b false e before = (before, before_not m p (place_of a) (place_of b) before (λ behind. false_not_true (place_lt m (place_of b) (place_of a)) e behind))

-- what comes before the earlier of two comes before both
below_earlier : (m : ℕ → ℕ) (p : Place) (a b : RingId × ℕ) → IsTrue (place_lt m p (place_of (earlier m a b))) →
    IsTrue (place_lt m p (place_of a)) × IsTrue (place_lt m p (place_of b))
below_earlier m p a b before = earlier_by m p a b (place_lt m (place_of b) (place_of a)) refl before

-- no place that isn't below comes before the next one
pub none_before_next : (m : ℕ → ℕ) (tuple : List (RingId × ℕ)) (p : Place) → IsNotBelow p tuple →
    IsTrue (place_lt m p (place_of (next_place m tuple))) → ⊥
none_before_next m [] p not before = not
none_before_next m (x ∷ []) p (inl here) before = not_before m p (place_of x) here.0 here.1 before
none_before_next m (x ∷ []) p (inr none) before = none
none_before_next m (x ∷ y ∷ pairs) p (inl here) before =
    not_before m p (place_of x) here.0 here.1 (below_earlier m p x (next_place m (y ∷ pairs)) before).0
none_before_next m (x ∷ y ∷ pairs) p (inr there) before =
    none_before_next m (y ∷ pairs) p there (below_earlier m p x (next_place m (y ∷ pairs)) before).1

one_of_if : (t : Bool) (x n : RingId × ℕ) (pairs : List (RingId × ℕ)) → IsOneOf n pairs → IsOneOf (if t then n else x) (x ∷ pairs)
one_of_if true x n pairs h = inr h
one_of_if false x n pairs h = inl refl

-- the next place is where a ring of the tuple goes on
pub next_is_one : (m : ℕ → ℕ) (x : RingId × ℕ) (pairs : List (RingId × ℕ)) → IsOneOf (next_place m (x ∷ pairs)) (x ∷ pairs)
next_is_one m x [] = inl refl
next_is_one m x (y ∷ pairs) =
    one_of_if (place_lt m (place_of (next_place m (y ∷ pairs))) (place_of x)) x (next_place m (y ∷ pairs)) (y ∷ pairs) (next_is_one m y pairs)

-- ---- what is below, by a pair of the tuple

pub below_by : (pair : RingId × ℕ) (tuple : List (RingId × ℕ)) (p : Place) → IsOneOf pair tuple → p.ring.0 ≡ pair.0.0 → p.inst < pair.1 → IsBelow p tuple
below_by pair [] p none ring less = absurd none
below_by pair (x ∷ pairs) p (inl same) ring less = inl (ring ∙ ap (λ (y : RingId × ℕ). y.0.0) same, subst (λ (y : RingId × ℕ). p.inst < y.1) same less)
below_by pair (x ∷ pairs) p (inr there) ring less = inr (below_by pair pairs p there ring less)

pub not_below_by : (pair : RingId × ℕ) (tuple : List (RingId × ℕ)) (p : Place) → IsOneOf pair tuple → p.ring.0 ≡ pair.0.0 → pair.1 ≤ p.inst → IsNotBelow p tuple
not_below_by pair [] p none ring le = absurd none
not_below_by pair (x ∷ pairs) p (inl same) ring le = inl (ring ∙ ap (λ (y : RingId × ℕ). y.0.0) same, subst (λ (y : RingId × ℕ). y.1 ≤ p.inst) same le)
not_below_by pair (x ∷ pairs) p (inr there) ring le = inr (not_below_by pair pairs p there ring le)

-- ---- validity

pub split_and : (a b : Bool) → (a && b) ≡ true → IsTrue a × IsTrue b
split_and true b h = (refl, h)
split_and false b h = absurd (true≢false (sym h))

last_before : (m : ℕ → ℕ) (next p : Place) (ring : RingId) (entry : ℕ) → IsTrue (is_last_before m next ring entry) → p.ring.0 ≡ ring.0 → p.inst < entry → IsTrue (place_lt m p next)
last_before m next p ring zero h same less = absurd (omega (arith, less))
last_before m next p ring (suc last) h same less =
    not_behind m p (record { ring = ring; inst = last }) next
    (not_before m (record { ring = ring; inst = last }) p (sym same) (omega (arith, less))) h

lasts_before : (m : ℕ → ℕ) (next p : Place) (tuple : List (RingId × ℕ)) → are_lasts_before m next tuple ≡ true → IsBelow p tuple → IsTrue (place_lt m p next)
lasts_before m next p [] h below = absurd below
lasts_before m next p (x ∷ pairs) h (inl here) =
    last_before m next p x.0 x.1 (split_and (is_last_before m next x.0 x.1) (are_lasts_before m next pairs) h).0 here.0 here.1
lasts_before m next p (x ∷ pairs) h (inr there) =
    lasts_before m next p pairs (split_and (is_last_before m next x.0 x.1) (are_lasts_before m next pairs) h).1 there

pub valid_is_front : (m : ℕ → ℕ) (tuple : List (RingId × ℕ)) → is_valid_tuple m tuple ≡ true → IsFront m tuple
valid_is_front m tuple valid p q below not =
    before_not m p (place_of (next_place m tuple)) q (lasts_before m (place_of (next_place m tuple)) p tuple valid below) (none_before_next m tuple q not)

pub both_true : (a b : Bool) → IsTrue a → IsTrue b → (a && b) ≡ true
both_true true b ha hb = hb
both_true false b ha hb = ha

last_is : (m : ℕ → ℕ) (next : Place) (ring : RingId) (entry : ℕ) → ((p : Place) → p.ring.0 ≡ ring.0 → p.inst < entry → IsTrue (place_lt m p next)) →
    IsTrue (is_last_before m next ring entry)
last_is m next ring zero all = refl
last_is m next ring (suc last) all = all (record { ring = ring; inst = last }) refl (omega arith)

lasts_are : (m : ℕ → ℕ) (next : Place) (tuple : List (RingId × ℕ)) → ((p : Place) → IsBelow p tuple → IsTrue (place_lt m p next)) → are_lasts_before m next tuple ≡ true
lasts_are m next [] all = refl
lasts_are m next (x ∷ pairs) all = both_true (is_last_before m next x.0 x.1) (are_lasts_before m next pairs)
    (last_is m next x.0 x.1 (λ p ring less. all p (inl (ring, less))))
    (lasts_are m next pairs (λ p there. all p (inr there)))

pub front_is_valid : (m : ℕ → ℕ) (tuple : List (RingId × ℕ)) → IsFront m tuple → is_valid_tuple m tuple ≡ true
front_is_valid m [] front = refl
front_is_valid m (x ∷ pairs) front = lasts_are m (place_of (next_place m (x ∷ pairs))) (x ∷ pairs)
    (λ p below. front p (place_of (next_place m (x ∷ pairs))) below
    (not_below_by (next_place m (x ∷ pairs)) (x ∷ pairs) (place_of (next_place m (x ∷ pairs))) (next_is_one m x pairs) refl (omega arith)))

-- ---- moving past

pub same_number : (a b : ℕ) → (a == b) ≡ true → a ≡ b
same_number a b e = grind arith

pub other_number : (a b : ℕ) → (a == b) ≡ false → a ≡ b → ⊥
other_number a b e same = grind arith

-- what a move leaves below: what was below, and the place itself
pub below_moved : (pair : RingId × ℕ) (tuple : List (RingId × ℕ)) (p : Place) → IsBelow p (moved_past pair tuple) →
    IsBelow p tuple ⊎ ((p.ring.0 ≡ pair.0.0) × (p.inst < pair.1 + 1))
below_moved pair [] p below = absurd below
below_moved pair (x ∷ pairs) p (inr there) = elim (below_moved pair pairs p there) [
  | inl below ↦ inl (inr below)
  | inr here ↦ inr here
]
below_moved pair (x ∷ pairs) p (inl here) = by (x.0.0 == pair.0.0) refl here
  where
    by : (t : Bool) → (x.0.0 == pair.0.0) ≡ t → (p.ring.0 ≡ (if t then (x.0, pair.1 + 1) else x).0.0) × (p.inst < (if t then (x.0, pair.1 + 1) else x).1) →
        IsBelow p (x ∷ pairs) ⊎ ((p.ring.0 ≡ pair.0.0) × (p.inst < pair.1 + 1))
    by true e h = inr (h.0 ∙ same_number x.0.0 pair.0.0 e, h.1)
    by false e h = inl (inl h)

-- what a move leaves not below: what wasn't below either, and no place of the ring up to the one moved past
pub not_below_moved : (pair : RingId × ℕ) (tuple : List (RingId × ℕ)) (p : Place) → IsNotBelow p (moved_past pair tuple) →
    (IsNotBelow p tuple × (p.ring.0 ≡ pair.0.0 → ⊥)) ⊎ ((p.ring.0 ≡ pair.0.0) × (pair.1 + 1 ≤ p.inst))
not_below_moved pair [] p not = absurd not
not_below_moved pair (x ∷ pairs) p (inr there) = elim (not_below_moved pair pairs p there) [
  | inl not ↦ inl (inr not.0, not.1)
  | inr here ↦ inr here
]
not_below_moved pair (x ∷ pairs) p (inl here) = by (x.0.0 == pair.0.0) refl here
  where
    by : (t : Bool) → (x.0.0 == pair.0.0) ≡ t → (p.ring.0 ≡ (if t then (x.0, pair.1 + 1) else x).0.0) × ((if t then (x.0, pair.1 + 1) else x).1 ≤ p.inst) →
        (IsNotBelow p (x ∷ pairs) × (p.ring.0 ≡ pair.0.0 → ⊥)) ⊎ ((p.ring.0 ≡ pair.0.0) × (pair.1 + 1 ≤ p.inst))
    by true e h = inr (h.0 ∙ same_number x.0.0 pair.0.0 e, h.1)
    by false e h = inl (inl h, λ same. other_number x.0.0 pair.0.0 e (sym h.0 ∙ same))

next_is_less : (i j : ℕ) → j + 1 ≤ i → i ≡ j → ⊥
next_is_less i j le same = omega (arith, le, same)

by_parts : (a b : Place) → a.ring.0 ≡ b.ring.0 → a.inst ≡ b.inst → a ≡ b
by_parts a b ring inst =
    let made : ℕ → ℕ → Place = λ r i. record { ring = record { 0 = r }; inst = i } in
    ap₂ made ring inst

-- a place of the ring that is below the next one, or is it
below_or_next : (a b : Place) → a.ring.0 ≡ b.ring.0 → a.inst < b.inst + 1 → (a.inst < b.inst) ⊎ (a ≡ b)
below_or_next a b ring less = elim (cases_order a.inst b.inst) [
  | inl same ↦ inr (by_parts a b ring same)
  | inr (inl below) ↦ inl below
  | inr (inr above) ↦ absurd (omega (arith, above, less))
]

-- below a moved tuple there are its next place and what was below
pub below_past : (m : ℕ → ℕ) (x : RingId × ℕ) (pairs : List (RingId × ℕ)) (p : Place) → IsBelow p (past m (x ∷ pairs)) →
    IsBelow p (x ∷ pairs) ⊎ (p ≡ place_of (next_place m (x ∷ pairs)))
below_past m x pairs p below = elim (below_moved (next_place m (x ∷ pairs)) (x ∷ pairs) p below) [
  | inl before ↦ inl before
  | inr here ↦ elim (below_or_next p (place_of (next_place m (x ∷ pairs))) here.0 here.1) [
    | inl less ↦ inl (below_by (next_place m (x ∷ pairs)) (x ∷ pairs) p (next_is_one m x pairs) here.0 less)
    | inr same ↦ inr same
  ]
]

-- what isn't below a moved tuple wasn't below before, and is another place than the next one
pub not_below_past : (m : ℕ → ℕ) (x : RingId × ℕ) (pairs : List (RingId × ℕ)) (p : Place) → IsNotBelow p (past m (x ∷ pairs)) →
    IsNotBelow p (x ∷ pairs) × (p ≡ place_of (next_place m (x ∷ pairs)) → ⊥)
not_below_past m x pairs p not = elim (not_below_moved (next_place m (x ∷ pairs)) (x ∷ pairs) p not) [
  | inl still ↦ (still.0, λ same. still.1 (ap (λ (q : Place). q.ring.0) same))
  | inr here ↦ (
    not_below_by (next_place m (x ∷ pairs)) (x ∷ pairs) p (next_is_one m x pairs) here.0 (omega (arith, here.1)),
    λ same. next_is_less p.inst (next_place m (x ∷ pairs)).1 here.1 (ap (λ (q : Place). q.inst) same),
  )
]

-- the next place comes before each other one that isn't below
next_before : (m : ℕ → ℕ) (x : RingId × ℕ) (pairs : List (RingId × ℕ)) (q : Place) → IsNotBelow q (x ∷ pairs) × (q ≡ place_of (next_place m (x ∷ pairs)) → ⊥) →
    IsTrue (place_lt m (place_of (next_place m (x ∷ pairs))) q)
next_before m x pairs q not = elim ((in_one_order m).total (place_of (next_place m (x ∷ pairs))) q) [
  | inl before ↦ before
  | inr (inl same) ↦ absurd (not.1 (sym same))
  | inr (inr behind) ↦ absurd (none_before_next m (x ∷ pairs) q not.0 behind)
]

pub none_below : (rings : List RingId) (p : Place) → IsBelow p (first_tuple rings) → ⊥
none_below [] p below = below
none_below (ring ∷ rings) p (inl here) = omega (arith, here.1)
none_below (ring ∷ rings) p (inr there) = none_below rings p there

-- a valid tuple moved past its next place is valid
pub past_is_front : (m : ℕ → ℕ) (tuple : List (RingId × ℕ)) → IsFront m tuple → IsFront m (past m tuple)
past_is_front m [] front p q below not = absurd below
past_is_front m (x ∷ pairs) front p q below not = elim (below_past m x pairs p below) [
  | inl before ↦ front p q before (not_below_past m x pairs q not).0
  | inr same ↦ subst (λ (y : Place). IsTrue (place_lt m y q)) (sym same) (next_before m x pairs q (not_below_past m x pairs q not))
]

pub first_is_front : (m : ℕ → ℕ) (rings : List RingId) → IsFront m (first_tuple rings)
first_is_front m rings p q below not = absurd (none_below rings p below)

pub past_many_is_front : (m : ℕ → ℕ) (n : ℕ) (tuple : List (RingId × ℕ)) → IsFront m tuple → IsFront m (past_many m n tuple)
past_many_is_front m zero tuple front = front
past_many_is_front m (suc n) tuple front = past_many_is_front m n (past m tuple) (past_is_front m tuple front)

-- whatever a number of places leaves is valid
pub past_many_valid : (m : ℕ → ℕ) (n : ℕ) (rings : List RingId) → is_valid_tuple m (past_many m n (first_tuple rings)) ≡ true
past_many_valid m n rings = front_is_valid m (past_many m n (first_tuple rings)) (past_many_is_front m n (first_tuple rings) (first_is_front m rings))
