-- How many places are below a tuple, and how many a merge passes.
use Rattle.std.proofs.Common.{arith, ◌≡◌, ℕ, zero, suc, ◌+◌, ◌*◌, ◌^◌, ◌<◌, ◌≤◌, ◌==◌, true, List, [], ◌∷◌, length, map, refl, sym, ap, subst, ◌∙◌}
use Rattle.std.proofs.lemmas.List.Sums.{sum_by-cons}
use Rattle.mrp_types.specs.declared.id.RingId.{RingId}
use Rattle.mrp_types.specs.declared.place.Place.{Place}
use Rattle.mrp_types.specs.declared.value.Value.{Value}
use Rattle.mrp_types.specs.Rings.{IncreasesFrom, numbers_of_rings}
use Rattle.mrp_types.specs.Tuples.{AreNexts, IsTuple}
use Rattle.mrp_types.specs.Moves.{past, past_many, has_rings, count_below, rings_of}
use Rattle.mrp_types.proofs.TupleOrder.{both_true}
use Rattle.mrp_types.proofs.TupleMoves.{itself, count_many, count_past, has_many, has_itself, rings_moved}
use Rattle.merge.specs.Merged.{PassesSkips, Delivers, Waits, Merges}
use Rattle.merge.specs.declared.passing.Next.{Next}
use Rattle.merge.specs.declared.passing.Next.TheVariants.{Deliver, Wait}
use Rattle.protocol.specs.Node.{Standing}
use Rattle.delivery.specs.Readied.{IsBehind}

-- ---- at most 2 ^ 44

most_below : (least : ℕ) (pairs : List (RingId × ℕ)) → AreNexts least pairs → count_below pairs ≤ length pairs * 2 ^ 40
most_below least [] nexts = omega arith
most_below least (x ∷ pairs) nexts = omega (arith, most_below (x.0.0 + 1) pairs nexts.3, nexts.2, sum_by-cons (λ (n : ℕ). n) x.1 (map (λ (y : RingId × ℕ). y.1) pairs))

pub most : (tuple : List (RingId × ℕ)) → IsTuple tuple → count_below tuple ≤ 2 ^ 44
most tuple is = omega (arith, most_below 0 tuple is.nexts, is.few)

-- ---- what a merge passes

own_rings : (tuple : List (RingId × ℕ)) → has_rings (rings_of tuple) tuple ≡ true
own_rings [] = refl
own_rings (x ∷ pairs) = both_true (x.0.0 == x.0.0) (has_rings (rings_of pairs) pairs) (itself x.0.0) (own_rings pairs)

increasing : (least : ℕ) (pairs : List (RingId × ℕ)) → AreNexts least pairs → IncreasesFrom least (numbers_of_rings (rings_of pairs))
increasing least [] nexts = tt
increasing least (x ∷ pairs) nexts = (nexts.0, increasing (x.0.0 + 1) pairs nexts.3)

many_counted : (m : ℕ → ℕ) (n : ℕ) (tuple : List (RingId × ℕ)) → IsTuple tuple → count_below (past_many m n tuple) ≡ n + count_below tuple
many_counted m n [] is = absurd (omega (arith, is.some))
many_counted m n (x ∷ pairs) is = count_many m n x.0 (rings_of pairs) (x ∷ pairs) (increasing 0 (x ∷ pairs) is.nexts) (own_rings (x ∷ pairs))

one_more : (m : ℕ → ℕ) (n : ℕ) (tuple stop : List (RingId × ℕ)) → IsTuple tuple → past_many m n tuple ≡ stop → count_below (past m stop) ≡ suc (count_below stop)
one_more m n [] stop is same = absurd (omega (arith, is.some))
one_more m n (x ∷ pairs) stop is same =
    count_past m x.0 (rings_of pairs) stop (increasing 0 (x ∷ pairs) is.nexts)
    (subst (λ (t : List (RingId × ℕ)). has_rings (rings_of (x ∷ pairs)) t ≡ true) same (has_many m n (rings_of (x ∷ pairs)) (x ∷ pairs) (own_rings (x ∷ pairs))))

pub delivers_counted : (m : ℕ → ℕ) (maps : List (List (ℕ × Value))) (old new : List (RingId × ℕ)) (place : Place) → IsTuple old → (d : Delivers m maps old place new) →
    count_below new ≡ suc (d.finds.passes.count + count_below old)
delivers_counted m maps old new place is d =
    ap count_below (sym d.moved) ∙ one_more m d.finds.passes.count old d.stop is d.finds.passes.moved
    ∙ ap (λ (n : ℕ). suc n) (ap count_below (sym d.finds.passes.moved) ∙ many_counted m d.finds.passes.count old is)

pub waits_counted : (m : ℕ → ℕ) (maps : List (List (ℕ × Value))) (old new : List (RingId × ℕ)) (ring : RingId) → IsTuple old → (w : Waits m maps old ring new) → count_below new ≡ w.passes.count + count_below old
waits_counted m maps old new ring is w = ap count_below (sym w.passes.moved) ∙ many_counted m w.passes.count old is

-- ---- what was delivered is among what was passed

pub still_behind : (m : ℕ → ℕ) (maps : List (List (ℕ × Value))) (old new : List (RingId × ℕ)) (next : Next) (delivered : ℕ) → IsTuple old → Merges m maps old next new → delivered ≤ count_below old → delivered ≤ count_below new
still_behind m maps old new (Deliver place) delivered is merges less = omega (arith, delivers_counted m maps old new place is merges, less)
still_behind m maps old new (Wait ring) delivered is merges less = omega (arith, waits_counted m maps old new ring is merges, less)

pub now_behind : (m : ℕ → ℕ) (maps : List (List (ℕ × Value))) (old new : List (RingId × ℕ)) (next : Next) (standing : Standing) → IsTuple old → Merges m maps old next new → standing.delivered ≤ count_below old →
    standing.tuple ≡ new → IsBehind standing next
now_behind m maps old new (Deliver place) standing is merges less same = omega (arith, delivers_counted m maps old new place is merges, less, ap count_below same)
now_behind m maps old new (Wait ring) standing is merges less same = tt
