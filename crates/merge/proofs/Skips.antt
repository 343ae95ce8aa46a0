-- From one tuple up to a later one each place is a skip.
use Rattle.std.proofs.Common.{arith, ◌≡◌, ◌<◌, ◌≤◌, inl, inr, ℕ, zero, suc, ◌+◌, ◌-◌, ◌==◌, nat_le, Bool, true, false, if◌then◌else◌, List, [], ◌∷◌, refl, sym, ap, subst, true≢false}
use Rattle.std.specs.Prelude.{Some}
use Rattle.mrp_types.specs.declared.id.RingId.{RingId}
use Rattle.mrp_types.specs.declared.value.Value.{Value}
use Rattle.mrp_types.specs.declared.value.Value.TheVariants.{Skip}
use Rattle.mrp_types.specs.Rings.{IncreasesFrom, numbers_of_rings}
use Rattle.mrp_types.specs.Moves.{next_place, moved_past, past, past_many, is_at_or_after, is_valid_tuple, has_rings, is_tuple_of, count_below, rings_of, IsOneOf}
use Rattle.mrp_types.proofs.TupleOrder.{split_and, both_true, same_number, other_number, next_is_one}
use Rattle.mrp_types.proofs.TupleChain.{is_le, le_is, reaches_chain}
use Rattle.mrp_types.proofs.TupleMoves.{Rises, rises_of, has_past, has_many, rings_moved}
use Rattle.tuple_laws.proofs.Below.{later-reached}
use Rattle.range_map.specs.Entries.{value_at}
use Rattle.merge.specs.Merged.{learned_at, PassesSkips}

-- of each ring the instances from the first entry on and below the second are skips
abbrev pub AreSkips : List (RingId × ℕ) → List (RingId × ℕ) → List (List (ℕ × Value)) → Type 0
AreSkips [] [] maps = Unit {0}
AreSkips (x ∷ a) (y ∷ b) (map ∷ maps) = ((i : ℕ) → x.1 ≤ i → i < y.1 → value_at i map ≡ Some Skip) × AreSkips a b maps
AreSkips a b maps = ⊥

-- where the ring of the pair goes on is no later than the pair
abbrev IsUpTo : RingId × ℕ → List (RingId × ℕ) → Type 0
IsUpTo pair [] = Unit {0}
IsUpTo pair (x ∷ pairs) = (x.0.0 ≡ pair.0.0 → x.1 ≤ pair.1) × IsUpTo pair pairs

apart_up_to : (least : ℕ) (pair : RingId × ℕ) (pairs : List (RingId × ℕ)) → Rises least pairs → pair.0.0 < least → IsUpTo pair pairs
apart_up_to least pair [] rise less = tt
apart_up_to least pair (x ∷ pairs) rise less = (λ same. absurd (omega (arith, rise.0, less, same)), apart_up_to (x.0.0 + 1) pair pairs rise.1 (omega (arith, rise.0, less)))

among_not : (least : ℕ) (pair : RingId × ℕ) (pairs : List (RingId × ℕ)) → Rises least pairs → IsOneOf pair pairs → least ≤ pair.0.0
among_not least pair [] rise one = absurd one
among_not least pair (x ∷ pairs) rise (inl same) = omega (arith, rise.0, ap (λ (y : RingId × ℕ). y.0.0) same)
among_not least pair (x ∷ pairs) rise (inr there) = omega (arith, rise.0, among_not (x.0.0 + 1) pair pairs rise.1 there)

one_up_to : (least : ℕ) (pair : RingId × ℕ) (pairs : List (RingId × ℕ)) → Rises least pairs → IsOneOf pair pairs → IsUpTo pair pairs
one_up_to least pair [] rise one = tt
one_up_to least pair (x ∷ pairs) rise (inl same) =
    let ring = ap (λ (y : RingId × ℕ). y.0.0) same in
    let inst = ap (λ (y : RingId × ℕ). y.1) same in
    (λ h. omega (arith, inst), apart_up_to (x.0.0 + 1) pair pairs rise.1 (omega (arith, ring)))
one_up_to least pair (x ∷ pairs) rise (inr there) =
    (λ h. absurd (omega (arith, h, among_not (x.0.0 + 1) pair pairs rise.1 there)), one_up_to (x.0.0 + 1) pair pairs rise.1 there)

-- a move goes on
moved_after : (pair : RingId × ℕ) (pairs : List (RingId × ℕ)) → IsUpTo pair pairs → is_at_or_after (moved_past pair pairs) pairs ≡ true
moved_after pair [] up = refl
moved_after pair (x ∷ pairs) up = by (x.0.0 == pair.0.0) refl (moved_after pair pairs up.1)
  where
    by : (t : Bool) → (x.0.0 == pair.0.0) ≡ t → is_at_or_after (moved_past pair pairs) pairs ≡ true → is_at_or_after ((if t then (x.0, pair.1 + 1) else x) ∷ moved_past pair pairs) (x ∷ pairs) ≡ true
    by true e later = both_true (nat_le x.1 (pair.1 + 1)) (is_at_or_after (moved_past pair pairs) pairs) (le_is x.1 (pair.1 + 1) (omega (arith, up.0 (same_number x.0.0 pair.0.0 e)))) later
    by false e later = both_true (nat_le x.1 x.1) (is_at_or_after (moved_past pair pairs) pairs) (le_is x.1 x.1 (omega arith)) later

-- fewer places are left to be skips
moved_skips : (pair : RingId × ℕ) (a b : List (RingId × ℕ)) (maps : List (List (ℕ × Value))) → IsUpTo pair a → AreSkips a b maps → AreSkips (moved_past pair a) b maps
moved_skips pair [] [] maps up skips = tt
moved_skips pair [] (y ∷ b) maps up skips = absurd skips
moved_skips pair (x ∷ a) [] maps up skips = absurd skips
moved_skips pair (x ∷ a) (y ∷ b) [] up skips = absurd skips
moved_skips pair (x ∷ a) (y ∷ b) (map ∷ maps) up skips = by (x.0.0 == pair.0.0) refl (moved_skips pair a b maps up.1 skips.1)
  where
    by : (t : Bool) → (x.0.0 == pair.0.0) ≡ t → AreSkips (moved_past pair a) b maps → AreSkips ((if t then (x.0, pair.1 + 1) else x) ∷ moved_past pair a) (y ∷ b) (map ∷ maps)
    by true e later = (λ i from to. skips.0 i (omega (arith, from, up.0 (same_number x.0.0 pair.0.0 e))) to, later)
    by false e later = (skips.0, later)

-- what is passed by a move is a skip
one_skip : (pair : RingId × ℕ) (a b : List (RingId × ℕ)) (maps : List (List (ℕ × Value))) → IsOneOf pair a → IsUpTo pair a → AreSkips a b maps → is_at_or_after b (moved_past pair a) ≡ true →
    learned_at (rings_of a) maps pair ≡ Some Skip
one_skip pair [] b maps one up skips after = absurd one
one_skip pair (x ∷ a) [] maps one up skips after = absurd skips
one_skip pair (x ∷ a) (y ∷ b) [] one up skips after = absurd skips
one_skip pair (x ∷ a) (y ∷ b) (map ∷ maps) one up skips after = by (x.0.0 == pair.0.0) refl one after (λ there goes. one_skip pair a b maps there up.1 skips.1 goes)
  where
    by : (t : Bool) → (x.0.0 == pair.0.0) ≡ t → IsOneOf pair (x ∷ a) → is_at_or_after (y ∷ b) ((if t then (x.0, pair.1 + 1) else x) ∷ moved_past pair a) ≡ true →
        (IsOneOf pair a → is_at_or_after b (moved_past pair a) ≡ true → learned_at (rings_of a) maps pair ≡ Some Skip) → (if t then value_at pair.1 map else learned_at (rings_of a) maps pair) ≡ Some Skip
    by true e one after later =
        let parts = split_and (nat_le (pair.1 + 1) y.1) (is_at_or_after b (moved_past pair a)) after in
        let less : pair.1 + 1 ≤ y.1 = is_le (pair.1 + 1) y.1 parts.0 in
        skips.0 pair.1 (up.0 (same_number x.0.0 pair.0.0 e)) (omega (arith, less))
    by false e (inl same) after later = absurd (other_number x.0.0 pair.0.0 e (sym (ap (λ (z : RingId × ℕ). z.0.0) same)))
    by false e (inr there) after later = later there (split_and (nat_le x.1 y.1) (is_at_or_after b (moved_past pair a)) after).1

-- ---- over many moves

next_one : (m : ℕ → ℕ) (rings : List RingId) (ring : RingId) (a : List (RingId × ℕ)) → has_rings (ring ∷ rings) a ≡ true → IsOneOf (next_place m a) a
next_one m rings ring [] has = absurd (true≢false (sym has))
next_one m rings ring (x ∷ a) has = next_is_one m x a

module _ (m : ℕ → ℕ) (ring : RingId) (rings : List RingId) (rise : IncreasesFrom 0 (numbers_of_rings (ring ∷ rings))) where
  up_to : (a : List (RingId × ℕ)) → has_rings (ring ∷ rings) a ≡ true → IsUpTo (next_place m a) a
  up_to a has = one_up_to 0 (next_place m a) a (rises_of 0 (ring ∷ rings) a rise has) (next_one m rings ring a has)

  itself_after : (a : List (RingId × ℕ)) → is_at_or_after a a ≡ true
  itself_after [] = refl
  itself_after (x ∷ a) = both_true (nat_le x.1 x.1) (is_at_or_after a a) (le_is x.1 x.1 (omega arith)) (itself_after a)

  many_after : (n : ℕ) (a : List (RingId × ℕ)) → has_rings (ring ∷ rings) a ≡ true → is_at_or_after (past_many m n a) a ≡ true
  many_after zero a has = itself_after a
  many_after (suc n) a has =
      let has_next = has_past m (ring ∷ rings) a has in
      reaches_chain (ring ∷ rings) (past_many m n (past m a)) (past m a) a (has_many m n (ring ∷ rings) (past m a) has_next) has_next has
      (many_after n (past m a) has_next) (moved_after (next_place m a) a (up_to a has))

  each_skip : (n : ℕ) (a b : List (RingId × ℕ)) (maps : List (List (ℕ × Value))) → has_rings (ring ∷ rings) a ≡ true → past_many m n a ≡ b → AreSkips a b maps →
      (k : ℕ) → k < n → learned_at (rings_of a) maps (next_place m (past_many m k a)) ≡ Some Skip
  each_skip zero a b maps has moved skips k less = absurd (omega (arith, less))
  each_skip (suc n) a b maps has moved skips zero less =
      one_skip (next_place m a) a b maps (next_one m rings ring a has) (up_to a has) skips
      (subst (λ (t : List (RingId × ℕ)). is_at_or_after t (past m a) ≡ true) moved (many_after n (past m a) (has_past m (ring ∷ rings) a has)))
  each_skip (suc n) a b maps has moved skips (suc k) less =
      subst (λ (rs : List RingId). learned_at rs maps (next_place m (past_many m k (past m a))) ≡ Some Skip) (rings_moved (next_place m a) a)
      (each_skip n (past m a) b maps (has_past m (ring ∷ rings) a has) moved (moved_skips (next_place m a) a b maps (up_to a has) skips) k (omega (arith, less)))

-- a later valid tuple is reached over skips, where all between the two are skips
pub passes : (m : ℕ → ℕ) (rings : List RingId) (a b : List (RingId × ℕ)) (maps : List (List (ℕ × Value))) → IncreasesFrom 0 (numbers_of_rings rings) → is_tuple_of m rings a ≡ true → is_tuple_of m rings b ≡ true →
    is_at_or_after b a ≡ true → AreSkips a b maps → PassesSkips m (rings_of a) maps a b
passes m [] [] b maps rise ta tb after skips = record { count = count_below b - 0; moved = later-reached m [] [] b rise ta tb after; skips = λ k less. absurd (none k less (ends b tb)) }
  where
    ends : (b : List (RingId × ℕ)) → is_tuple_of m [] b ≡ true → count_below b ≡ 0
    ends [] tb = refl
    ends (y ∷ ys) tb = absurd (true≢false (sym tb))

    none : (k : ℕ) → k < count_below b - 0 → count_below b ≡ 0 → ⊥
    none k less zero_count = omega (arith, less, zero_count)
passes m [] (x ∷ a) b maps rise ta tb after skips = absurd (true≢false (sym ta))
passes m (ring ∷ rings) a b maps rise ta tb after skips = record {
  count = count_below b - count_below a;
  moved = later-reached m (ring ∷ rings) a b rise ta tb after;
  skips = each_skip m ring rings rise (count_below b - count_below a) a b maps (split_and (has_rings (ring ∷ rings) a) (is_valid_tuple m a) ta).0 (later-reached m (ring ∷ rings) a b rise ta tb after) skips;
}
