-- The turns of a merge: what is known ahead of its tuple, and where it stops.
use Rattle.std.proofs.Common.{arith, ◌≡◌, ◌<◌, ◌≤◌, ◌↔◌, inl, inr, ℕ, zero, suc, ◌+◌, ◌-◌, ◌^◌, ◌==◌, nat_lt, Bool, true, false, if◌then◌else◌, IsTrue, List, [], ◌∷◌, length, slice_index_or, slice_set, refl, sym, ap, subst, true≢false, ◌∙◌}
use Rattle.std.specs.Prelude.{◌≢◌, Option, Some, None, IsNone, IfSome, Result, Ok, Err}
use Rattle.std.proofs.Math.Path.{ap₂}
use Rattle.std.proofs.lemmas.Bool.{cases_lt}
use Rattle.mrp_types.specs.declared.id.RingId.{RingId}
use Rattle.mrp_types.specs.declared.place.Place.{Place}
use Rattle.mrp_types.specs.declared.value.Value.{Value}
use Rattle.mrp_types.specs.declared.value.Value.TheVariants.{Skip, Batch}
use Rattle.mrp_types.specs.Places.{place_lt}
use Rattle.mrp_types.specs.Rings.{IncreasesFrom, numbers_of_rings}
use Rattle.mrp_types.specs.Tuples.{AreNexts, IsTuple}
use Rattle.mrp_types.specs.Moves.{place_of, next_place, is_valid_tuple, has_rings, rings_of, IsOneOf, IsNotBelow}
use Rattle.mrp_types.proofs.TupleOrder.{both_true, none_before_next, same_number, other_number}
use Rattle.mrp_types.proofs.TupleMoves.{itself, has_itself}
use Rattle.plain_model.specs.Tuples.{count_before, tuple_at}
use Rattle.plain_model.proofs.TupleAt.{count-before}
use Rattle.tuple_laws.proofs.NextPlaces.{at_has}
use Rattle.range_map.specs.Entries.{value_at}
use Rattle.merge.specs.declared.looks.Run.{Run}
use Rattle.merge.specs.declared.passing.Next.{Next}
use Rattle.merge.specs.declared.passing.Next.TheVariants.{Deliver, Wait}
use Rattle.merge.specs.Merged.{learned_at, PassesSkips, FindsBatch, Waits, Stops, HasRoom}
use Rattle.merge.specs.Looked.{map_at, IsRunOf, found_at}
use Rattle.merge.specs.Ahead.{IsAhead, AreAhead, count_ahead, AreSized, AreLate}
use Rattle.merge.proofs.Sized.{at_valid, next_of_at, at_after}
use Rattle.merge.proofs.Skips.{AreSkips, passes}

abbrev pub none : RingId × ℕ
none = ((record { 0 = 0 }), 0)

-- ---- the start

pub starts : (least : ℕ) (tuple : List (RingId × ℕ)) (maps : List (List (ℕ × Value))) → AreNexts least tuple → length maps ≡ length tuple → AreAhead tuple tuple maps
starts least [] [] nexts same = tt
starts least [] (map ∷ maps) nexts same = absurd (omega (arith, same))
starts least (x ∷ tuple) [] nexts same = absurd (omega (arith, same))
starts least (x ∷ tuple) (map ∷ maps) nexts same = (
  record { ring = refl; from_there = omega arith; within = nexts.2; skips = λ i from to. absurd (omega (arith, from, to)); ended = λ less. absurd (omega (arith, less)) },
  starts (x.0.0 + 1) tuple maps nexts.3 (omega (arith, same)),
)

not_less : (n : ℕ) → nat_lt n n ≡ false
not_less n = grind arith

is_less : (a b : ℕ) → a < b → nat_lt a b ≡ true
is_less a b less = grind arith

pub count_same : (tuple : List (RingId × ℕ)) → count_ahead tuple tuple ≡ 0
count_same [] = refl
count_same (x ∷ tuple) = ap₂ (λ (t : Bool) (n : ℕ). (if t then 1 else 0) + n) (not_less x.1) (count_same tuple)

one_more : (t : Bool) (n k : ℕ) → n ≤ k → (if t then 1 else 0) + n ≤ k + 1
one_more true n k le = omega (arith, le)
one_more false n k le = omega (arith, le)

pub count_most : (tuple ahead : List (RingId × ℕ)) → count_ahead tuple ahead ≤ length ahead
count_most [] ahead = omega arith
count_most (x ∷ tuple) [] = omega arith
count_most (x ∷ tuple) (y ∷ ahead) = let one = one_more (nat_lt x.1 y.1) (count_ahead tuple ahead) (length ahead) (count_most tuple ahead) in omega (arith, one)

-- ---- one position

pub ahead_at : (tuple ahead : List (RingId × ℕ)) (maps : List (List (ℕ × Value))) (at : ℕ) → AreAhead tuple ahead maps → at < length ahead →
    IsAhead (slice_index_or tuple at none) (slice_index_or ahead at none) (map_at maps at)
ahead_at [] [] maps at are inside = absurd (omega (arith, inside))
ahead_at [] (y ∷ ahead) maps at are inside = absurd are
ahead_at (x ∷ tuple) [] maps at are inside = absurd are
ahead_at (x ∷ tuple) (y ∷ ahead) [] at are inside = absurd are
ahead_at (x ∷ tuple) (y ∷ ahead) (map ∷ maps) zero are inside = are.0
ahead_at (x ∷ tuple) (y ∷ ahead) (map ∷ maps) (suc at) are inside = ahead_at tuple ahead maps at are.1 (omega (arith, inside))

-- a run of skips from where a ring goes on
pub record Extends (y next : RingId × ℕ) (map : List (ℕ × Value)) : Type 0 where
  pub ring : next.0 ≡ y.0
  pub past : y.1 < next.1
  pub within : next.1 ≤ 2 ^ 40
  pub skips : (i : ℕ) → y.1 ≤ i → i < next.1 → value_at i map ≡ Some Skip
  pub ended : value_at next.1 map ≢ Some Skip

pub extends : (y next : RingId × ℕ) (map : List (ℕ × Value)) (run : Run) → IsRunOf map y.1 run → run.skip ≡ true → next.0 ≡ y.0 → next.1 ≡ run.end → Extends y next map
extends y next map run is skip ring end =
    let here : value_at y.1 map ≡ Some Skip = is.skip.0 skip in
    let ends = is.ends in
    let within = is.within in
    record {
      ring = ring;
      past = omega arith;
      within = omega arith;
      skips = λ i from to. is.equal i from (omega (arith, to)) ∙ here;
      ended = λ same. is.longest (subst (λ (n : ℕ). value_at n map ≡ Some Skip) end same ∙ sym here);
    }

extended : (x y next : RingId × ℕ) (map : List (ℕ × Value)) → IsAhead x y map → Extends y next map → IsAhead x next map
extended x y next map is more =
    let from = is.from_there in
    let past = more.past in
    record {
      ring = more.ring ∙ is.ring;
      from_there = omega arith;
      within = more.within;
      skips = λ i begun to. elim (cases_lt i y.1) [
        | inl before ↦ is.skips i begun before
        | inr later ↦ more.skips i later to
      ];
      ended = λ less same. more.ended same;
    }

-- the ring wasn't passed before
first_time : (x y next : RingId × ℕ) (map : List (ℕ × Value)) → IsAhead x y map → Extends y next map → (nat_lt x.1 y.1 ≡ false) × (nat_lt x.1 next.1 ≡ true)
first_time x y next map is more =
    let from = is.from_there in
    let past = more.past in
    elim (cases_lt x.1 y.1) [
      | inl less ↦ absurd (is.ended less (more.skips y.1 (omega arith) past))
      | inr le ↦ (let same : x.1 ≡ y.1 = omega arith in subst (λ (n : ℕ). nat_lt x.1 n ≡ false) same (not_less x.1), is_less x.1 next.1 (omega arith))
    ]

pub raised : (tuple ahead : List (RingId × ℕ)) (maps : List (List (ℕ × Value))) (at : ℕ) (next : RingId × ℕ) → AreAhead tuple ahead maps → at < length ahead →
    Extends (slice_index_or ahead at none) next (map_at maps at) → AreAhead tuple (slice_set ahead at next) maps × (count_ahead tuple (slice_set ahead at next) ≡ suc (count_ahead tuple ahead))
raised [] [] maps at next are inside more = absurd (omega (arith, inside))
raised [] (y ∷ ahead) maps at next are inside more = absurd are
raised (x ∷ tuple) [] maps at next are inside more = absurd are
raised (x ∷ tuple) (y ∷ ahead) [] at next are inside more = absurd are
raised (x ∷ tuple) (y ∷ ahead) (map ∷ maps) zero next are inside more =
    let time = first_time x y next map are.0 more in
    let counts : (p q : Bool) → p ≡ false → q ≡ true → (n : ℕ) → (if q then 1 else 0) + n ≡ suc ((if p then 1 else 0) + n) = count_by in
    ((extended x y next map are.0 more, are.1), counts (nat_lt x.1 y.1) (nat_lt x.1 next.1) time.0 time.1 (count_ahead tuple ahead))
  where
    count_by : (p q : Bool) → p ≡ false → q ≡ true → (n : ℕ) → (if q then 1 else 0) + n ≡ suc ((if p then 1 else 0) + n)
    count_by true q hp hq n = absurd (true≢false hp)
    count_by false true hp hq n = omega arith
    count_by false false hp hq n = absurd (true≢false (sym hq))
raised (x ∷ tuple) (y ∷ ahead) (map ∷ maps) (suc at) next are inside more =
    let later = raised tuple ahead maps at next are.1 (omega (arith, inside)) more in
    let count = later.1 in
    ((are.0, later.0), omega (arith, count))

-- ---- the stop

false_of : (t : Bool) → (IsTrue t → ⊥) → t ≡ false
false_of true not = absurd (not refl)
false_of false not = refl

pub late_by : (m : ℕ → ℕ) (place : Place) (tuple ahead : List (RingId × ℕ)) (maps : List (List (ℕ × Value))) → AreAhead tuple ahead maps →
    ((p : Place) → IsNotBelow p ahead → IsTrue (place_lt m p place) → ⊥) → AreLate m place ahead
late_by m place tuple [] maps are first = tt
late_by m place [] (y ∷ ahead) maps are first = absurd are
late_by m place (x ∷ tuple) (y ∷ ahead) [] are first = absurd are
late_by m place (x ∷ tuple) (y ∷ ahead) (map ∷ maps) are first = (
  false_of (place_lt m (place_of y) place) (first (place_of y) (inl (refl, omega arith))),
  are.0.within,
  late_by m place tuple ahead maps are.1 (λ p not. first p (inr not)),
)

pub late : (m : ℕ → ℕ) (tuple ahead : List (RingId × ℕ)) (maps : List (List (ℕ × Value))) → AreAhead tuple ahead maps → AreLate m (place_of (next_place m ahead)) ahead
late m tuple ahead maps are = late_by m (place_of (next_place m ahead)) tuple ahead maps are (λ p not. none_before_next m ahead p not)

pub same_rings : (tuple ahead : List (RingId × ℕ)) (maps : List (List (ℕ × Value))) → AreAhead tuple ahead maps → rings_of ahead ≡ rings_of tuple
same_rings [] [] maps are = refl
same_rings [] (y ∷ ahead) maps are = absurd are
same_rings (x ∷ tuple) [] maps are = absurd are
same_rings (x ∷ tuple) (y ∷ ahead) [] are = absurd are
same_rings (x ∷ tuple) (y ∷ ahead) (map ∷ maps) are = ap₂ (λ (r : RingId) (rs : List RingId). r ∷ rs) are.0.ring (same_rings tuple ahead maps are.1)

count_le : (m : ℕ → ℕ) (y : RingId × ℕ) (place : Place) → place_lt m (place_of y) place ≡ false → 1 ≤ m y.0.0 → count_before m y.0 place ≤ y.1
count_le m y place not least = elim (cases_lt y.1 (count_before m y.0 place)) [
  | inl less ↦ absurd (true≢false (sym ((count-before m (place_of y) place (omega (arith, least))).0 less) ∙ not))
  | inr le ↦ le
]

stop_skips : (m : ℕ → ℕ) (place : Place) (tuple ahead : List (RingId × ℕ)) (maps : List (List (ℕ × Value))) → AreAhead tuple ahead maps → AreSized m ahead → AreLate m place ahead →
    AreSkips tuple (tuple_at m (rings_of ahead) place) maps
stop_skips m place [] [] maps are sized late = tt
stop_skips m place [] (y ∷ ahead) maps are sized late = absurd are
stop_skips m place (x ∷ tuple) [] maps are sized late = absurd are
stop_skips m place (x ∷ tuple) (y ∷ ahead) [] are sized late = absurd are
stop_skips m place (x ∷ tuple) (y ∷ ahead) (map ∷ maps) are sized late =
    let le = count_le m y place late.0 sized.0 in
    (λ i from to. are.0.skips i from (omega (arith, to, le)), stop_skips m place tuple ahead maps are.1 sized.1 late.2)

stop_nexts : (m : ℕ → ℕ) (place : Place) (least : ℕ) (tuple ahead : List (RingId × ℕ)) (maps : List (List (ℕ × Value))) → AreAhead tuple ahead maps → AreSized m ahead → AreLate m place ahead →
    AreNexts least tuple → AreNexts least (tuple_at m (rings_of ahead) place)
stop_nexts m place least [] [] maps are sized late nexts = tt
stop_nexts m place least [] (y ∷ ahead) maps are sized late nexts = absurd are
stop_nexts m place least (x ∷ tuple) [] maps are sized late nexts = absurd are
stop_nexts m place least (x ∷ tuple) (y ∷ ahead) [] are sized late nexts = absurd are
stop_nexts m place least (x ∷ tuple) (y ∷ ahead) (map ∷ maps) are sized late nexts =
    let le = count_le m y place late.0 sized.0 in
    let same : y.0.0 ≡ x.0.0 = ap (λ (r : RingId). r.0) are.0.ring in
    let within = late.1 in
    let low = nexts.0 in
    let high = nexts.1 in
    let rest : AreNexts (x.0.0 + 1) (tuple_at m (rings_of ahead) place) = stop_nexts m place (x.0.0 + 1) tuple ahead maps are.1 sized.1 late.2 nexts.3 in
    (omega arith, omega arith, omega arith, subst (λ (n : ℕ). AreNexts (n + 1) (tuple_at m (rings_of ahead) place)) (sym same) rest)

length_at : (m : ℕ → ℕ) (place : Place) (tuple ahead : List (RingId × ℕ)) (maps : List (List (ℕ × Value))) → AreAhead tuple ahead maps → length (tuple_at m (rings_of ahead) place) ≡ length tuple
length_at m place [] [] maps are = refl
length_at m place [] (y ∷ ahead) maps are = absurd are
length_at m place (x ∷ tuple) [] maps are = absurd are
length_at m place (x ∷ tuple) (y ∷ ahead) [] are = absurd are
length_at m place (x ∷ tuple) (y ∷ ahead) (map ∷ maps) are = ap suc (length_at m place tuple ahead maps are.1)

one_at : (pairs : List (RingId × ℕ)) (at : ℕ) → at < length pairs → IsOneOf (slice_index_or pairs at none) pairs
one_at [] at inside = absurd (omega (arith, inside))
one_at (x ∷ pairs) zero inside = inl refl
one_at (x ∷ pairs) (suc at) inside = inr (one_at pairs at (omega (arith, inside)))

not_below_at : (tuple ahead : List (RingId × ℕ)) (maps : List (List (ℕ × Value))) (at : ℕ) → AreAhead tuple ahead maps → at < length ahead → IsNotBelow (place_of (slice_index_or ahead at none)) tuple
not_below_at [] [] maps at are inside = absurd (omega (arith, inside))
not_below_at [] (y ∷ ahead) maps at are inside = absurd are
not_below_at (x ∷ tuple) [] maps at are inside = absurd are
not_below_at (x ∷ tuple) (y ∷ ahead) [] at are inside = absurd are
not_below_at (x ∷ tuple) (y ∷ ahead) (map ∷ maps) zero are inside = inl (ap (λ (r : RingId). r.0) are.0.ring, are.0.from_there)
not_below_at (x ∷ tuple) (y ∷ ahead) (map ∷ maps) (suc at) are inside = inr (not_below_at tuple ahead maps at are.1 (omega (arith, inside)))

own_rings : (tuple : List (RingId × ℕ)) → has_rings (rings_of tuple) tuple ≡ true
own_rings [] = refl
own_rings (x ∷ pairs) = both_true (x.0.0 == x.0.0) (has_rings (rings_of pairs) pairs) (itself x.0.0) (own_rings pairs)

increasing : (least : ℕ) (pairs : List (RingId × ℕ)) → AreNexts least pairs → IncreasesFrom least (numbers_of_rings (rings_of pairs))
increasing least [] nexts = tt
increasing least (x ∷ pairs) nexts = (nexts.0, increasing (x.0.0 + 1) pairs nexts.3)

-- the ring at a position isn't lower than the first
ring_at : (tuple ahead : List (RingId × ℕ)) (maps : List (List (ℕ × Value))) (least at : ℕ) → AreAhead tuple ahead maps → at < length ahead → AreNexts least tuple → least ≤ (slice_index_or ahead at none).0.0
ring_at [] [] maps least at are inside nexts = absurd (omega (arith, inside))
ring_at [] (y ∷ ahead) maps least at are inside nexts = absurd are
ring_at (x ∷ tuple) [] maps least at are inside nexts = absurd are
ring_at (x ∷ tuple) (y ∷ ahead) [] least at are inside nexts = absurd are
ring_at (x ∷ tuple) (y ∷ ahead) (map ∷ maps) least zero are inside nexts = let same = ap (λ (r : RingId). r.0) are.0.ring in omega (arith, same, nexts.0)
ring_at (x ∷ tuple) (y ∷ ahead) (map ∷ maps) least (suc at) are inside nexts = omega (arith, nexts.0, ring_at tuple ahead maps (x.0.0 + 1) at are.1 (omega (arith, inside)) nexts.3)

-- what is learned at the place of a position is what its map holds
learned_there : (tuple ahead : List (RingId × ℕ)) (maps : List (List (ℕ × Value))) (least at : ℕ) → AreAhead tuple ahead maps → at < length ahead → AreNexts least tuple →
    learned_at (rings_of tuple) maps (slice_index_or ahead at none) ≡ value_at (slice_index_or ahead at none).1 (map_at maps at)
learned_there [] [] maps least at are inside nexts = absurd (omega (arith, inside))
learned_there [] (y ∷ ahead) maps least at are inside nexts = absurd are
learned_there (x ∷ tuple) [] maps least at are inside nexts = absurd are
learned_there (x ∷ tuple) (y ∷ ahead) [] least at are inside nexts = absurd are
learned_there (x ∷ tuple) (y ∷ ahead) (map ∷ maps) least zero are inside nexts = by (x.0.0 == y.0.0) refl
  where
    by : (t : Bool) → (x.0.0 == y.0.0) ≡ t → (if t then value_at y.1 map else learned_at (rings_of tuple) maps y) ≡ value_at y.1 map
    by true e = refl
    by false e = absurd (other_number x.0.0 y.0.0 e (sym (ap (λ (r : RingId). r.0) are.0.ring)))
learned_there (x ∷ tuple) (y ∷ ahead) (map ∷ maps) least (suc at) are inside nexts =
    by (x.0.0 == (slice_index_or ahead at none).0.0) refl (learned_there tuple ahead maps (x.0.0 + 1) at are.1 (omega (arith, inside)) nexts.3) (ring_at tuple ahead maps (x.0.0 + 1) at are.1 (omega (arith, inside)) nexts.3)
  where
    by : (t : Bool) → (x.0.0 == (slice_index_or ahead at none).0.0) ≡ t →
        learned_at (rings_of tuple) maps (slice_index_or ahead at none) ≡ value_at (slice_index_or ahead at none).1 (map_at maps at) → x.0.0 + 1 ≤ (slice_index_or ahead at none).0.0 →
        (if t then value_at (slice_index_or ahead at none).1 map else learned_at (rings_of tuple) maps (slice_index_or ahead at none)) ≡ value_at (slice_index_or ahead at none).1 (map_at maps at)
    by true e later more = absurd (omega (arith, more, same_number x.0.0 (slice_index_or ahead at none).0.0 e))
    by false e later more = later

pair_of : (x y : RingId × ℕ) → place_of x ≡ place_of y → x ≡ y
pair_of x y same = ap (λ (p : Place). (p.ring, p.inst)) same

-- what stands where the turns end, at the place of a position
pub record Stopped (m : ℕ → ℕ) (maps : List (List (ℕ × Value))) (old : List (RingId × ℕ)) (at : ℕ) (q : RingId × ℕ) (stop : List (RingId × ℕ)) : Type 0 where
  pub tuple : IsTuple stop
  pub valid : is_valid_tuple m stop ≡ true
  pub rings : rings_of stop ≡ rings_of old
  pub passes : PassesSkips m (rings_of old) maps old stop
  pub next : next_place m stop ≡ q
  pub learned : learned_at (rings_of old) maps q ≡ value_at q.1 (map_at maps at)

stopped_at : (m : ℕ → ℕ) (tuple ahead : List (RingId × ℕ)) (maps : List (List (ℕ × Value))) (at : ℕ) → IsTuple tuple → is_valid_tuple m tuple ≡ true → AreAhead tuple ahead maps → AreSized m ahead →
    at < length ahead → AreLate m (place_of (slice_index_or ahead at none)) ahead → Stopped m maps tuple at (slice_index_or ahead at none) (tuple_at m (rings_of ahead) (place_of (slice_index_or ahead at none)))
stopped_at m tuple ahead maps at is valid are sized inside late =
    let q : RingId × ℕ = slice_index_or ahead at none in
    let b : List (RingId × ℕ) = tuple_at m (rings_of ahead) (place_of q) in
    let rings : rings_of ahead ≡ rings_of tuple = same_rings tuple ahead maps are in
    let has : has_rings (rings_of ahead) tuple ≡ true = subst (λ (rs : List RingId). has_rings rs tuple ≡ true) (sym rings) (own_rings tuple) in
    let many : length b ≡ length tuple = length_at m (place_of q) tuple ahead maps are in
    let b_valid : is_valid_tuple m b ≡ true = at_valid m ahead (place_of q) sized in
    let b_has : has_rings (rings_of tuple) b ≡ true = subst (λ (rs : List RingId). has_rings rs b ≡ true) rings (at_has m (rings_of ahead) (place_of q)) in
    let some = is.some in
    let few = is.few in
    record {
      tuple = record { some = omega arith; few = omega arith; nexts = stop_nexts m (place_of q) 0 tuple ahead maps are sized late is.nexts };
      valid = b_valid;
      rings = has_itself b (rings_of tuple) b_has;
      passes = passes m (rings_of tuple) tuple b maps (increasing 0 tuple is.nexts)
          (both_true (has_rings (rings_of tuple) tuple) (is_valid_tuple m tuple) (own_rings tuple) valid)
          (both_true (has_rings (rings_of tuple) b) (is_valid_tuple m b) b_has b_valid)
          (at_after m ahead tuple (place_of q) sized has valid (not_below_at tuple ahead maps at are inside))
          (stop_skips m (place_of q) tuple ahead maps are sized late);
      next = pair_of (next_place m b) q (next_of_at m ahead q sized (one_at ahead at inside));
      learned = learned_there tuple ahead maps 0 at are inside is.nexts;
    }

pub stopped : (m : ℕ → ℕ) (tuple ahead : List (RingId × ℕ)) (maps : List (List (ℕ × Value))) (at : ℕ) (place : Place) (stop : List (RingId × ℕ)) → IsTuple tuple → is_valid_tuple m tuple ≡ true → AreAhead tuple ahead maps →
    AreSized m ahead → at < length ahead → slice_index_or ahead at none ≡ next_place m ahead → place ≡ place_of (slice_index_or ahead at none) → stop ≡ tuple_at m (rings_of ahead) place →
    Stopped m maps tuple at (slice_index_or ahead at none) stop
stopped m tuple ahead maps at place stop is valid are sized inside first there same =
    let q : RingId × ℕ = slice_index_or ahead at none in
    let all : AreLate m (place_of q) ahead = subst (λ (x : RingId × ℕ). AreLate m (place_of x) ahead) (sym first) (late m tuple ahead maps are) in
    let to : stop ≡ tuple_at m (rings_of ahead) (place_of q) = same ∙ ap (λ (p : Place). tuple_at m (rings_of ahead) p) there in
    subst (λ (t : List (RingId × ℕ)). Stopped m maps tuple at q t) (sym to) (stopped_at m tuple ahead maps at is valid are sized inside all)

batch_of : (o : Option Value) → (o ≡ None → ⊥) → (o ≡ Some Skip → ⊥) → (batch : List ℕ) × (o ≡ Some (Batch batch))
batch_of None some other = absurd (some refl)
batch_of (Some Skip) some other = absurd (other refl)
batch_of (Some (Batch batch)) some other = (batch, refl)

-- ---- one turn

set_length : (pairs : List (RingId × ℕ)) (at : ℕ) (next : RingId × ℕ) → length (slice_set pairs at next) ≡ length pairs
set_length [] at next = refl
set_length (x ∷ pairs) zero next = refl
set_length (x ∷ pairs) (suc at) next = ap suc (set_length pairs at next)

abbrev on_to : Place → Run → Result (RingId × ℕ) Next
on_to place run = Ok (place.ring, run.end)

abbrev a_batch : Place → Result (RingId × ℕ) Next
a_batch place = Err (Deliver place)

-- what a look answers
pub record Looked (map : List (ℕ × Value)) (inst : ℕ) (o : Option Run) : Type 0 where
  pub none : IsNone o ↔ (value_at inst map ≡ None)
  pub run : IfSome o (λ run. IsRunOf map inst run)

-- a run of skips is passed
turn_by : (tuple ahead : List (RingId × ℕ)) (maps : List (List (ℕ × Value))) (at : ℕ) (place : Place) (run : Run) (next : RingId × ℕ) → AreAhead tuple ahead maps → at < length ahead →
    place ≡ place_of (slice_index_or ahead at none) → IsRunOf (map_at maps at) place.inst run → run.skip ≡ true → (place.ring, run.end) ≡ next →
    AreAhead tuple (slice_set ahead at next) maps × (count_ahead tuple (slice_set ahead at next) ≡ suc (count_ahead tuple ahead))
turn_by tuple ahead maps at place run next are inside there is skip same =
    let inst : place.inst ≡ (slice_index_or ahead at none).1 = ap (λ (p : Place). p.inst) there in
    let ring : place.ring ≡ (slice_index_or ahead at none).0 = ap (λ (p : Place). p.ring) there in
    raised tuple ahead maps at next are inside
    (extends (slice_index_or ahead at none) next (map_at maps at) run (subst (λ (n : ℕ). IsRunOf (map_at maps at) n run) inst is) skip
    (sym (ap (λ (x : RingId × ℕ). x.0) same) ∙ ring) (sym (ap (λ (x : RingId × ℕ). x.1) same)))

pub turn : (tuple ahead : List (RingId × ℕ)) (maps : List (List (ℕ × Value))) (at : ℕ) (place : Place) (o : Option Run) (next : RingId × ℕ) → AreAhead tuple ahead maps → at < length ahead →
    place ≡ place_of (slice_index_or ahead at none) → Looked (map_at maps at) place.inst o → found_at place o ≡ Ok next →
    AreAhead tuple (slice_set ahead at next) maps × (count_ahead tuple (slice_set ahead at next) ≡ suc (count_ahead tuple ahead))
turn tuple ahead maps at place None next are inside there looked is = absurd (cc)
turn tuple ahead maps at place (Some run) next are inside there looked is = by run.skip refl is
  where
    by : (t : Bool) → run.skip ≡ t → (if t then on_to place run else a_batch place) ≡ Ok next →
        AreAhead tuple (slice_set ahead at next) maps × (count_ahead tuple (slice_set ahead at next) ≡ suc (count_ahead tuple ahead))
    by true skip found = let same : (place.ring, run.end) ≡ next = cc in turn_by tuple ahead maps at place run next are inside there looked.run skip same
    by false skip found = absurd (cc)

pub fewer_left : (tuple ahead : List (RingId × ℕ)) (at : ℕ) (next : RingId × ℕ) → count_ahead tuple (slice_set ahead at next) ≡ suc (count_ahead tuple ahead) →
    length (slice_set ahead at next) - count_ahead tuple (slice_set ahead at next) < length ahead - count_ahead tuple ahead
fewer_left tuple ahead at next one =
    let many = set_length ahead at next in
    let most = count_most tuple (slice_set ahead at next) in
    omega arith

-- nothing is learned at the place
waits : (m : ℕ → ℕ) (maps : List (List (ℕ × Value))) (old : List (RingId × ℕ)) (at : ℕ) (q : RingId × ℕ) (place : Place) (stop : List (RingId × ℕ)) → place ≡ place_of q →
    Stopped m maps old at q stop → value_at place.inst (map_at maps at) ≡ None → Waits m maps old place.ring stop
waits m maps old at q place stop there is bare =
    let inst : place.inst ≡ q.1 = ap (λ (p : Place). p.inst) there in
    record {
      passes = is.passes;
      next = ap (λ (x : RingId × ℕ). x.0) is.next ∙ sym (ap (λ (p : Place). p.ring) there);
      bare = ap (λ (x : RingId × ℕ). learned_at (rings_of old) maps x) is.next ∙ is.learned ∙ (ap (λ (i : ℕ). value_at i (map_at maps at)) (sym inst) ∙ bare);
    }

-- a batch is learned at the place
finds : (m : ℕ → ℕ) (maps : List (List (ℕ × Value))) (old : List (RingId × ℕ)) (at : ℕ) (q : RingId × ℕ) (place : Place) (run : Run) (stop : List (RingId × ℕ)) → place ≡ place_of q →
    Stopped m maps old at q stop → IsRunOf (map_at maps at) place.inst run → run.skip ≡ false → (value_at place.inst (map_at maps at) ≡ None → ⊥) → FindsBatch m maps old place stop
finds m maps old at q place run stop there is looked skip some =
    let inst : place.inst ≡ q.1 = ap (λ (p : Place). p.inst) there in
    let held : Option Value = value_at place.inst (map_at maps at) in
    let found : (batch : List ℕ) × (held ≡ Some (Batch batch)) = batch_of held some (λ e. true≢false (sym (looked.skip.1 e) ∙ skip)) in
    record {
      passes = is.passes;
      next = ap place_of is.next ∙ sym there;
      batch = found.0;
      holds = ap (λ (x : RingId × ℕ). learned_at (rings_of old) maps x) is.next ∙ is.learned ∙ (ap (λ (i : ℕ). value_at i (map_at maps at)) (sym inst) ∙ found.1);
    }

next_room : (m : ℕ → ℕ) (maps : List (List (ℕ × Value))) (old : List (RingId × ℕ)) (at : ℕ) (q : RingId × ℕ) (place : Place) (run : Run) (stop : List (RingId × ℕ)) → place ≡ place_of q →
    Stopped m maps old at q stop → IsRunOf (map_at maps at) place.inst run → (next_place m stop).1 < 2 ^ 40
next_room m maps old at q place run stop there is looked =
    let inst : place.inst ≡ q.1 = ap (λ (p : Place). p.inst) there in
    let next : (next_place m stop).1 ≡ q.1 = ap (λ (x : RingId × ℕ). x.1) is.next in
    let ends = looked.ends in
    let within = looked.within in
    omega arith

-- the look says where the merge stops
pub stops : (m : ℕ → ℕ) (maps all : List (List (ℕ × Value))) (old : List (RingId × ℕ)) (at : ℕ) (q : RingId × ℕ) (place : Place) (o : Option Run) (next : Next) (stop : List (RingId × ℕ)) → maps ≡ all → place ≡ place_of q →
    Stopped m maps old at q stop → Looked (map_at maps at) place.inst o → found_at place o ≡ Err next → Stops m all old next stop × HasRoom m next stop
stops m maps all old at q place None next stop same there is looked found =
    let comes : Wait place.ring ≡ next = cc in
    let held : Stops m maps old (Wait place.ring) stop × HasRoom m (Wait place.ring) stop = (waits m maps old at q place stop there is (looked.none.0 refl), tt) in
    subst (λ (n : Next). Stops m all old n stop × HasRoom m n stop) comes (subst (λ (ms : List (List (ℕ × Value))). Stops m ms old (Wait place.ring) stop × HasRoom m (Wait place.ring) stop) same held)
stops m maps all old at q place (Some run) next stop same there is looked found = by run.skip refl found
  where
    by : (t : Bool) → run.skip ≡ t → (if t then on_to place run else a_batch place) ≡ Err next → Stops m all old next stop × HasRoom m next stop
    by true skip e = absurd (cc)
    by false skip e =
        let comes : Deliver place ≡ next = cc in
        let held : Stops m maps old (Deliver place) stop × HasRoom m (Deliver place) stop =
        (finds m maps old at q place run stop there is looked.run skip (λ none. true≢false (looked.none.1 none)), next_room m maps old at q place run stop there is looked.run) in
        subst (λ (n : Next). Stops m all old n stop × HasRoom m n stop) comes (subst (λ (ms : List (List (ℕ × Value))). Stops m ms old (Deliver place) stop × HasRoom m (Deliver place) stop) same held)
