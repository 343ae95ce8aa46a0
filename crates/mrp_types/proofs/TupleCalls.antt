-- What a tuple's calls say: a valid one is reached by moves, and the first entries that differ order two of them.
use Rattle.std.proofs.Common.{arith, ◌≡◌, ◌↔◌, ◌⊎◌, inl, inr, ℕ, ◌+◌, ◌==◌, ◌&&◌, Bool, true, false, if◌then◌else◌, nat_lt, nat_le, List, [], ◌∷◌, refl, sym, ap, subst}
use Rattle.mrp_types.specs.declared.id.RingId.{RingId}
use Rattle.mrp_types.specs.declared.tuple.Order.{Order}
use Rattle.mrp_types.specs.declared.tuple.Order.TheVariants.{Before, Same, After}
use Rattle.mrp_types.specs.Rings.{IncreasesFrom, numbers_of_rings}
use Rattle.mrp_types.specs.Tuples.{AreNexts, IsTuple}
use Rattle.mrp_types.specs.Moves.{is_at_or_after, is_valid_tuple, has_rings, is_tuple_of, count_below, rings_of, order_of, IsReached, IsOrderOf}
use Rattle.mrp_types.proofs.TupleOrder.{both_true, past_many_valid}
use Rattle.mrp_types.proofs.TupleChain.{by_entries, by_parts_of_list, before_by, one_reaches}
use Rattle.mrp_types.proofs.TupleMoves.{itself, reached}

-- ---- valid tuples

own_rings : (tuple : List (RingId × ℕ)) → has_rings (rings_of tuple) tuple ≡ true
own_rings [] = refl
own_rings (x ∷ pairs) = both_true (x.0.0 == x.0.0) (has_rings (rings_of pairs) pairs) (itself x.0.0) (own_rings pairs)

increasing : (least : ℕ) (pairs : List (RingId × ℕ)) → AreNexts least pairs → IncreasesFrom least (numbers_of_rings (rings_of pairs))
increasing least [] nexts = tt
increasing least (x ∷ pairs) nexts = (nexts.0, increasing (x.0.0 + 1) pairs nexts.3)

pub valid_is_reached : (m : ℕ → ℕ) (tuple : List (RingId × ℕ)) → IsTuple tuple → (is_valid_tuple m tuple ≡ true) ↔ IsReached m tuple
valid_is_reached m tuple is = (
  λ valid. (count_below tuple, reached m (rings_of tuple) tuple (increasing 0 tuple is.nexts) (both_true (has_rings (rings_of tuple) tuple) (is_valid_tuple m tuple) (own_rings tuple) valid)),
  λ moves. subst (λ (t : List (RingId × ℕ)). is_valid_tuple m t ≡ true) moves.1 (past_many_valid m moves.0 (rings_of tuple)),
)

-- ---- the order of two

less_not : (i j : ℕ) → nat_lt i j ≡ true → nat_le j i ≡ false
less_not i j h = grind arith

level : (i j : ℕ) → nat_lt i j ≡ false → nat_lt j i ≡ false → i ≡ j
level i j h k = grind arith

first_false : (p q : Bool) → p ≡ false → (p && q) ≡ false
first_false true q h = absurd cc
first_false false q h = refl

last_false : (p q : Bool) → q ≡ false → (p && q) ≡ false
last_false true q h = h
last_false false q h = refl

before_not_after : (a b : List (RingId × ℕ)) → order_of a b ≡ Before → is_at_or_after a b ≡ false
before_not_after [] b h = absurd cc
before_not_after (x ∷ xs) [] h = absurd cc
before_not_after (x ∷ xs) (y ∷ ys) h = by (nat_lt x.1 y.1) refl (nat_lt y.1 x.1) h (λ g. before_not_after xs ys g)
  where
    by : (p : Bool) → nat_lt x.1 y.1 ≡ p → (q : Bool) → (if p then Before else (if q then After else order_of xs ys)) ≡ Before → (order_of xs ys ≡ Before → is_at_or_after xs ys ≡ false) →
        is_at_or_after (x ∷ xs) (y ∷ ys) ≡ false
    by true e q h later = first_false (nat_le y.1 x.1) (is_at_or_after xs ys) (less_not x.1 y.1 e)
    by false e true h later = absurd cc
    by false e false h later = last_false (nat_le y.1 x.1) (is_at_or_after xs ys) (later h)

after_not_before : (a b : List (RingId × ℕ)) → order_of a b ≡ After → is_at_or_after b a ≡ false
after_not_before [] b h = absurd cc
after_not_before (x ∷ xs) [] h = absurd cc
after_not_before (x ∷ xs) (y ∷ ys) h = by (nat_lt x.1 y.1) (nat_lt y.1 x.1) refl h (λ g. after_not_before xs ys g)
  where
    by : (p q : Bool) → nat_lt y.1 x.1 ≡ q → (if p then Before else (if q then After else order_of xs ys)) ≡ After → (order_of xs ys ≡ After → is_at_or_after ys xs ≡ false) →
        is_at_or_after (y ∷ ys) (x ∷ xs) ≡ false
    by true q e h later = absurd cc
    by false true e h later = first_false (nat_le x.1 y.1) (is_at_or_after ys xs) (less_not y.1 x.1 e)
    by false false e h later = last_false (nat_le x.1 y.1) (is_at_or_after ys xs) (later h)

same_tuple : (a b : List (RingId × ℕ)) → rings_of a ≡ rings_of b → order_of a b ≡ Same → a ≡ b
same_tuple [] [] rings h = refl
same_tuple [] (y ∷ ys) rings h = absurd cc
same_tuple (x ∷ xs) [] rings h = absurd cc
same_tuple (x ∷ xs) (y ∷ ys) rings h = by (nat_lt x.1 y.1) refl (nat_lt y.1 x.1) refl h (λ g. same_tuple xs ys later_rings g)
  where
    first_ring : x.0 ≡ y.0
    first_ring = cc

    later_rings : rings_of xs ≡ rings_of ys
    later_rings = cc

    by : (p : Bool) → nat_lt x.1 y.1 ≡ p → (q : Bool) → nat_lt y.1 x.1 ≡ q → (if p then Before else (if q then After else order_of xs ys)) ≡ Same → (order_of xs ys ≡ Same → xs ≡ ys) → x ∷ xs ≡ y ∷ ys
    by true e q f h later = absurd cc
    by false e true f h later = absurd cc
    by false e false f h later = by_parts_of_list x y xs ys (by_entries x y (ap (λ (r : RingId). r.0) first_ring) (level x.1 y.1 e f)) (later h)

pub order_is : (m : ℕ → ℕ) (a b : List (RingId × ℕ)) → rings_of a ≡ rings_of b → is_valid_tuple m a ≡ true → is_valid_tuple m b ≡ true → IsOrderOf a b (order_of a b)
order_is m a b rings va vb = by (order_of a b) refl (one_reaches m (rings_of a) a b (valid_of a (own_rings a) va) (valid_of b (subst (λ (rs : List RingId). has_rings rs b ≡ true) (sym rings) (own_rings b)) vb))
  where
    valid_of : (t : List (RingId × ℕ)) → has_rings (rings_of a) t ≡ true → is_valid_tuple m t ≡ true → is_tuple_of m (rings_of a) t ≡ true
    valid_of t has valid = both_true (has_rings (rings_of a) t) (is_valid_tuple m t) has valid

    by : (o : Order) → order_of a b ≡ o → (is_at_or_after a b ≡ true) ⊎ (is_at_or_after b a ≡ true) → IsOrderOf a b o
    by Before e (inl reaches) = let not = before_not_after a b e in absurd cc
    by Before e (inr reaches) = before_by (is_at_or_after b a) (is_at_or_after a b) reaches (before_not_after a b e)
    by Same e any = same_tuple a b rings e
    by After e (inl reaches) = before_by (is_at_or_after a b) (is_at_or_after b a) reaches (after_not_before a b e)
    by After e (inr reaches) = let not = after_not_before a b e in absurd cc
