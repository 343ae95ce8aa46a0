-- What stands below a valid tuple goes on with each move.
use Rattle.std.proofs.Common.{arith, ◌≡◌, ◌≤◌, ℕ, zero, suc, ◌+◌, ◌-◌, true, List, [], ◌∷◌, Option, Some, None, refl, sym, ap, ◌∙◌, append_assoc, append-nil}
use Rattle.std.proofs.Math.Path.{ap₂}
use Rattle.mrp_types.specs.declared.id.RingId.{RingId}
use Rattle.mrp_types.specs.declared.value.Entry.{Entry}
use Rattle.mrp_types.specs.Book.{Learning}
use Rattle.mrp_config.specs.Valid.{IncreasesFrom, numbers_of_rings}
use Rattle.plain_model.specs.Tuples.{next_place, past, past_many, first_tuple, is_at_or_after, is_valid_tuple, has_rings, is_tuple_of}
use Rattle.plain_model.specs.Fold.{both_known, entries_known, entries_of_next, count_below, rings_of, entries_below}
use Rattle.plain_model.proofs.TupleOrder.{split_and}
use Rattle.mrp_types.proofs.TupleMoves.{rings_moved, has_itself, first_count, count_past, fewer, reached}

-- ---- entries below

both_grouped : (a b c : Option (List Entry)) → both_known a (both_known b c) ≡ both_known (both_known a b) c
both_grouped None b c = refl
both_grouped (Some xs) None c = refl
both_grouped (Some xs) (Some ys) None = refl
both_grouped (Some xs) (Some ys) (Some zs) = ap (λ (l : List Entry). Some l) (sym (append_assoc xs ys zs))

none_first : (o : Option (List Entry)) → both_known (Some []) o ≡ o
none_first None = refl
none_first (Some ys) = refl

none_last : (o : Option (List Entry)) → both_known o (Some []) ≡ o
none_last None = refl
none_last (Some ys) = ap (λ (l : List Entry). Some l) (append-nil ys)

next_snoc : (m : ℕ → ℕ) (known : List Learning) (n : ℕ) (tuple : List (RingId × ℕ)) →
    entries_of_next m known (suc n) tuple ≡ both_known (entries_of_next m known n tuple) (entries_known known (next_place m (past_many m n tuple)))
next_snoc m known zero tuple = none_last (entries_known known (next_place m tuple)) ∙ sym (none_first (entries_known known (next_place m tuple)))
next_snoc m known (suc n) tuple =
    ap (λ (o : Option (List Entry)). both_known (entries_known known (next_place m tuple)) o) (next_snoc m known n (past m tuple))
    ∙ both_grouped (entries_known known (next_place m tuple)) (entries_of_next m known n (past m tuple)) (entries_known known (next_place m (past_many m n (past m tuple))))

pub below-past : (m : ℕ → ℕ) (known : List Learning) (ring : RingId) (rings : List RingId) (tuple : List (RingId × ℕ)) → IncreasesFrom 0 (numbers_of_rings (ring ∷ rings)) →
    is_tuple_of m (ring ∷ rings) tuple ≡ true → entries_below m known (past m tuple) ≡ both_known (entries_below m known tuple) (entries_known known (next_place m tuple))
unfolding entries_below
below-past m known ring rings tuple rise is =
    ap₂ (λ (n : ℕ) (rs : List RingId). entries_of_next m known n (first_tuple rs)) (count_past m ring rings tuple rise has) (rings_moved (next_place m tuple) tuple)
    ∙ next_snoc m known (count_below tuple) (first_tuple (rings_of tuple))
    ∙ ap (λ (t : List (RingId × ℕ)). both_known (entries_of_next m known (count_below tuple) (first_tuple (rings_of tuple))) (entries_known known (next_place m t)))
    (ap (λ (rs : List RingId). past_many m (count_below tuple) (first_tuple rs)) (has_itself tuple (ring ∷ rings) has) ∙ reached m (ring ∷ rings) tuple rise is)
  where
    has : has_rings (ring ∷ rings) tuple ≡ true
    has = (split_and (has_rings (ring ∷ rings) tuple) (is_valid_tuple m tuple) is).0

pub below-first : (m : ℕ → ℕ) (known : List Learning) (rings : List RingId) → entries_below m known (first_tuple rings) ≡ Some []
unfolding entries_below
below-first m known rings = ap (λ (n : ℕ). entries_of_next m known n (first_tuple (rings_of (first_tuple rings)))) (first_count rings)

-- ---- later tuples

past-sum : (m : ℕ → ℕ) (a b : ℕ) (tuple : List (RingId × ℕ)) → past_many m (a + b) tuple ≡ past_many m b (past_many m a tuple)
past-sum m zero b tuple = ap (λ (n : ℕ). past_many m n tuple) none
  where
    none : zero + b ≡ b
    none = omega arith
past-sum m (suc a) b tuple = ap (λ (n : ℕ). past_many m n tuple) one ∙ past-sum m a b (past m tuple)
  where
    one : suc a + b ≡ suc (a + b)
    one = omega arith

next-sum : (m : ℕ → ℕ) (known : List Learning) (a b : ℕ) (tuple : List (RingId × ℕ)) →
    entries_of_next m known (a + b) tuple ≡ both_known (entries_of_next m known a tuple) (entries_of_next m known b (past_many m a tuple))
next-sum m known zero b tuple = ap (λ (n : ℕ). entries_of_next m known n tuple) none ∙ sym (none_first (entries_of_next m known b tuple))
  where
    none : zero + b ≡ b
    none = omega arith
next-sum m known (suc a) b tuple =
    ap (λ (n : ℕ). entries_of_next m known n tuple) one
    ∙ ap (λ (o : Option (List Entry)). both_known (entries_known known (next_place m tuple)) o) (next-sum m known a b (past m tuple))
    ∙ both_grouped (entries_known known (next_place m tuple)) (entries_of_next m known a (past m tuple)) (entries_of_next m known b (past_many m a (past m tuple)))
  where
    one : suc a + b ≡ suc (a + b)
    one = omega arith

pub later-reached : (m : ℕ → ℕ) (rings : List RingId) (a b : List (RingId × ℕ)) → IncreasesFrom 0 (numbers_of_rings rings) → is_tuple_of m rings a ≡ true → is_tuple_of m rings b ≡ true →
    is_at_or_after b a ≡ true → past_many m (count_below b - count_below a) a ≡ b
later-reached m rings a b rise ta tb after =
    ap (λ (t : List (RingId × ℕ)). past_many m (count_below b - count_below a) t) (sym (reached m rings a rise ta))
    ∙ sym (past-sum m (count_below a) (count_below b - count_below a) (first_tuple rings))
    ∙ ap (λ (n : ℕ). past_many m n (first_tuple rings)) all
    ∙ reached m rings b rise tb
  where
    most : count_below a ≤ count_below b
    most = fewer rings b a (split_and (has_rings rings b) (is_valid_tuple m b) tb).0 (split_and (has_rings rings a) (is_valid_tuple m a) ta).0 after

    all : count_below a + (count_below b - count_below a) ≡ count_below b
    all = omega (arith, most)

pub later-below : (m : ℕ → ℕ) (known : List Learning) (rings : List RingId) (a b : List (RingId × ℕ)) → IncreasesFrom 0 (numbers_of_rings rings) → is_tuple_of m rings a ≡ true →
    is_tuple_of m rings b ≡ true → is_at_or_after b a ≡ true →
    entries_below m known b ≡ both_known (entries_below m known a) (entries_of_next m known (count_below b - count_below a) a)
unfolding entries_below
later-below m known rings a b rise ta tb after =
    ap₂ (λ (n : ℕ) (rs : List RingId). entries_of_next m known n (first_tuple rs)) (sym all) (has_itself b rings has_b ∙ sym (has_itself a rings has_a))
    ∙ next-sum m known (count_below a) (count_below b - count_below a) (first_tuple (rings_of a))
    ∙ ap (λ (t : List (RingId × ℕ)). both_known (entries_of_next m known (count_below a) (first_tuple (rings_of a))) (entries_of_next m known (count_below b - count_below a) t))
    (ap (λ (rs : List RingId). past_many m (count_below a) (first_tuple rs)) (has_itself a rings has_a) ∙ reached m rings a rise ta)
  where
    has_a : has_rings rings a ≡ true
    has_a = (split_and (has_rings rings a) (is_valid_tuple m a) ta).0

    has_b : has_rings rings b ≡ true
    has_b = (split_and (has_rings rings b) (is_valid_tuple m b) tb).0

    most : count_below a ≤ count_below b
    most = fewer rings b a (split_and (has_rings rings b) (is_valid_tuple m b) tb).0 (split_and (has_rings rings a) (is_valid_tuple m a) ta).0 after

    all : count_below a + (count_below b - count_below a) ≡ count_below b
    all = omega (arith, most)
