-- One more pair behind the others, and pairs that a move leaves.
use Rattle.std.proofs.Common.{arith, ◌≡◌, ℕ, zero, suc, ◌+◌, ◌-◌, ◌<◌, ◌≤◌, ◌^◌, ◌==◌, Bool, true, false, if◌then◌else◌, List, [], ◌∷◌, ◌++◌, length, take, replicate, refl, sym, ◌∙◌, ap, slice_set, slice_index_or, append_assoc, length-take-le}
use Rattle.std.proofs.Math.Seq.{take-suc, take-length, take-append_seam}
use Rattle.std.proofs.lemmas.List.{set_at, length-append, length-map, length-replicate}
use Rattle.mrp_types.specs.declared.id.RingId.{RingId}
use Rattle.mrp_types.specs.Tuples.{filled, AreNexts, IsTuple}
use Rattle.mrp_types.specs.Moves.{first_tuple, moved_one, moved_past}

abbrev none : RingId × ℕ
none = (record { 0 = 0 }, 0)

pub one_more : (pairs : List (RingId × ℕ)) (i : ℕ) → i < length pairs → length pairs ≤ 16 → slice_set (filled (take i pairs)) i (slice_index_or pairs i none) ≡ filled (take (i + 1) pairs)
one_more pairs i inside few =
    let front = take i pairs in
    let last = slice_index_or pairs i none in
    let many : length front ≡ i = length-take-le i pairs (omega (arith, inside)) in
    let left : 16 - length front ≡ suc (15 - i) = omega (arith, many, inside, few) in
    let spare : replicate (16 - length front) none ≡ none ∷ replicate (15 - i) none = ap (λ n. replicate n none) left in
    let put : slice_set (filled front) i last ≡ front ++ last ∷ replicate (15 - i) none = ap (λ (l : List (RingId × ℕ)). slice_set (front ++ l) i last) spare ∙ set_at front none (replicate (15 - i) none) last i many in
    let step : take (suc i) pairs ≡ front ++ last ∷ [] = take-suc pairs i none inside in
    let longer : length (front ++ last ∷ []) ≡ i + 1 = length-append front (last ∷ []) ∙ ap (λ n. n + 1) many in
    let later : 16 - length (front ++ last ∷ []) ≡ 15 - i = omega (arith, longer, inside, few) in
    let rest : replicate (16 - length (front ++ last ∷ [])) none ≡ replicate (15 - i) none = ap (λ n. replicate n none) later in
    let whole : filled (front ++ last ∷ []) ≡ front ++ last ∷ replicate (15 - i) none = ap (λ (l : List (RingId × ℕ)). (front ++ last ∷ []) ++ l) rest ∙ append_assoc front (last ∷ []) (replicate (15 - i) none) in
    let up : suc i ≡ i + 1 = omega arith in
    put ∙ (sym whole ∙ ap filled (sym step ∙ ap (λ n. take n pairs) up))

-- all pairs are kept, and nothing behind them
pub all_kept : (i n : ℕ) (pairs kept : List (RingId × ℕ)) → i ≡ length pairs → n ≡ length pairs → length pairs ≤ 16 → kept ≡ filled (take i pairs) →
    (take n kept ≡ pairs) × (length kept ≡ 16) × (filled (take n kept) ≡ kept)
all_kept i n pairs kept up last few is =
    let whole : take i pairs ≡ pairs = ap (λ (k : ℕ). take k pairs) up ∙ take-length pairs in
    let all : kept ≡ filled pairs = is ∙ ap filled whole in
    let front : take n kept ≡ pairs = ap (λ (l : List (RingId × ℕ)). take n l) all ∙ (ap (λ (k : ℕ). take k (filled pairs)) last ∙ take-append_seam pairs (replicate (16 - length pairs) none)) in
    let spare : length (replicate (16 - length pairs) none) ≡ 16 - length pairs = length-replicate (16 - length pairs) none in
    let many : length (filled pairs) ≡ 16 = omega (arith, length-append pairs (replicate (16 - length pairs) none), spare, few) in
    (front, ap length all ∙ many, ap filled front ∙ sym all)

-- ---- the first tuple

nth_first : (rings : List RingId) (i : ℕ) → i < length rings → slice_index_or (first_tuple rings) i none ≡ (slice_index_or rings i (record { 0 = 0 }), 0)
nth_first [] i inside = absurd (omega (arith, inside))
nth_first (ring ∷ rings) zero inside = refl
nth_first (ring ∷ rings) (suc i) inside = nth_first rings i (omega (arith, inside))

pub first_more : (rings : List RingId) (i : ℕ) → i < length rings → length rings ≤ 16 →
    slice_set (filled (take i (first_tuple rings))) i (slice_index_or rings i (record { 0 = 0 }), 0) ≡ filled (take (i + 1) (first_tuple rings))
first_more rings i inside few =
    let many : length (first_tuple rings) ≡ length rings = length-map rings (λ (ring : RingId). (ring, 0)) in
    let at : slice_index_or (first_tuple rings) i none ≡ (slice_index_or rings i (record { 0 = 0 }), 0) = nth_first rings i inside in
    ap (λ (x : RingId × ℕ). slice_set (filled (take i (first_tuple rings))) i x) (sym at) ∙ one_more (first_tuple rings) i (omega (arith, many, inside)) (omega (arith, many, few))

-- ---- pairs moved past a place

pub length_moved : (place : RingId × ℕ) (pairs : List (RingId × ℕ)) → length (moved_past place pairs) ≡ length pairs
length_moved place [] = refl
length_moved place (x ∷ pairs) = ap suc (length_moved place pairs)

nth_moved : (place : RingId × ℕ) (pairs : List (RingId × ℕ)) (i : ℕ) → i < length pairs → slice_index_or (moved_past place pairs) i none ≡ moved_one place (slice_index_or pairs i none)
nth_moved place [] i inside = absurd (omega (arith, inside))
nth_moved place (x ∷ pairs) zero inside = refl
nth_moved place (x ∷ pairs) (suc i) inside = nth_moved place pairs i (omega (arith, inside))

pub moved_more : (place : RingId × ℕ) (pairs : List (RingId × ℕ)) (i : ℕ) → i < length pairs → length pairs ≤ 16 →
    slice_set (filled (take i (moved_past place pairs))) i (moved_one place (slice_index_or pairs i none)) ≡ filled (take (i + 1) (moved_past place pairs))
moved_more place pairs i inside few =
    let many : length (moved_past place pairs) ≡ length pairs = length_moved place pairs in
    ap (λ (x : RingId × ℕ). slice_set (filled (take i (moved_past place pairs))) i x) (sym (nth_moved place pairs i inside))
    ∙ one_more (moved_past place pairs) i (omega (arith, many, inside)) (omega (arith, many, few))

nexts_moved : (least : ℕ) (place : RingId × ℕ) (pairs : List (RingId × ℕ)) → place.1 < 2 ^ 40 → AreNexts least pairs → AreNexts least (moved_past place pairs)
nexts_moved least place [] room nexts = tt
nexts_moved least place (x ∷ pairs) room nexts = by (x.0.0 == place.0.0) (nexts_moved (x.0.0 + 1) place pairs room nexts.3)
  where
    by : (t : Bool) → AreNexts (x.0.0 + 1) (moved_past place pairs) → AreNexts least ((if t then (x.0, place.1 + 1) else x) ∷ moved_past place pairs)
    by true later = (nexts.0, nexts.1, omega (arith, room), later)
    by false later = (nexts.0, nexts.1, nexts.2, later)

pub moved_is_tuple : (place : RingId × ℕ) (pairs : List (RingId × ℕ)) → place.1 < 2 ^ 40 → IsTuple pairs → IsTuple (moved_past place pairs)
moved_is_tuple place pairs room is =
    let many : length (moved_past place pairs) ≡ length pairs = length_moved place pairs in
    record { some = omega (arith, many, is.some); few = omega (arith, many, is.few); nexts = nexts_moved 0 place pairs room is.nexts }
