-- Pairs that are settled one after the other.
use Rattle.std.proofs.Common.{arith, ◌≡◌, ◌<◌, ◌≤◌, ℕ, zero, suc, ◌^◌, false, List, [], ◌∷◌, length, take, slice_index_or, slice_set, refl, ap}
use Rattle.mrp_types.specs.declared.id.RingId.{RingId}
use Rattle.mrp_types.specs.declared.place.Place.{Place}
use Rattle.mrp_types.specs.Places.{place_lt}
use Rattle.mrp_types.specs.Moves.{place_of, rings_of}
use Rattle.plain_model.specs.Tuples.{count_before, tuple_at}
use Rattle.merge.specs.Ahead.{AreSized, AreLate}
use Rattle.merge.proofs.Turns.{none}

-- the first i of them are settled
abbrev pub settled_front : (ℕ → ℕ) → Place → ℕ → List (RingId × ℕ) → List (RingId × ℕ)
settled_front m place zero pairs = pairs
settled_front m place (suc i) [] = []
settled_front m place (suc i) (x ∷ pairs) = (x.0, count_before m x.0 place) ∷ settled_front m place i pairs

pub front_length : (m : ℕ → ℕ) (place : Place) (i : ℕ) (pairs : List (RingId × ℕ)) → length (settled_front m place i pairs) ≡ length pairs
front_length m place zero pairs = refl
front_length m place (suc i) [] = refl
front_length m place (suc i) (x ∷ pairs) = ap suc (front_length m place i pairs)

-- the next one isn't yet
pub front_at : (m : ℕ → ℕ) (place : Place) (i : ℕ) (pairs : List (RingId × ℕ)) → slice_index_or (settled_front m place i pairs) i none ≡ slice_index_or pairs i none
front_at m place zero pairs = refl
front_at m place (suc i) [] = refl
front_at m place (suc i) (x ∷ pairs) = front_at m place i pairs

pub front_more : (m : ℕ → ℕ) (place : Place) (i : ℕ) (pairs : List (RingId × ℕ)) → i < length pairs →
    slice_set (settled_front m place i pairs) i ((slice_index_or pairs i none).0, count_before m (slice_index_or pairs i none).0 place) ≡ settled_front m place (suc i) pairs
front_more m place i [] inside = absurd (omega (arith, inside))
front_more m place zero (x ∷ pairs) inside = refl
front_more m place (suc i) (x ∷ pairs) inside = ap (λ (l : List (RingId × ℕ)). (x.0, count_before m x.0 place) ∷ l) (front_more m place i pairs (omega (arith, inside)))

pub front_all : (m : ℕ → ℕ) (place : Place) (i : ℕ) (pairs : List (RingId × ℕ)) → i ≡ length pairs → settled_front m place i pairs ≡ tuple_at m (rings_of pairs) place
front_all m place zero [] all = refl
front_all m place zero (x ∷ pairs) all = absurd (omega (arith, all))
front_all m place (suc i) [] all = refl
front_all m place (suc i) (x ∷ pairs) all = ap (λ (l : List (RingId × ℕ)). (x.0, count_before m x.0 place) ∷ l) (front_all m place i pairs (omega (arith, all)))

pub late_at : (m : ℕ → ℕ) (place : Place) (pairs : List (RingId × ℕ)) (i : ℕ) → AreLate m place pairs → i < length pairs →
    (place_lt m (place_of (slice_index_or pairs i none)) place ≡ false) × ((slice_index_or pairs i none).1 ≤ 2 ^ 40)
late_at m place [] i late inside = absurd (omega (arith, inside))
late_at m place (x ∷ pairs) zero late inside = (late.0, late.1)
late_at m place (x ∷ pairs) (suc i) late inside = late_at m place pairs i late.2 (omega (arith, inside))

pub sized_all : (m : ℕ → ℕ) (pairs : List (RingId × ℕ)) → ((k : ℕ) → k < length pairs → 1 ≤ m (slice_index_or pairs k none).0.0) → AreSized m pairs
sized_all m [] each = tt
sized_all m (x ∷ pairs) each = (each 0 (omega arith), sized_all m pairs (λ k inside. each (suc k) (omega (arith, inside))))

-- one pair more is copied
pub copied_more : (xs ys : List (RingId × ℕ)) (i : ℕ) → i < length xs → i < length ys → take i xs ≡ take i ys → take (suc i) (slice_set xs i (slice_index_or ys i none)) ≡ take (suc i) ys
copied_more [] ys i inside there same = absurd (omega (arith, inside))
copied_more (x ∷ xs) [] i inside there same = absurd (omega (arith, there))
copied_more (x ∷ xs) (y ∷ ys) zero inside there same = refl
copied_more (x ∷ xs) (y ∷ ys) (suc i) inside there same =
    let head : x ≡ y = cc in
    let tail : take i xs ≡ take i ys = cc in
    let later : take (suc i) (slice_set xs i (slice_index_or ys i none)) ≡ take (suc i) ys = copied_more xs ys i (omega (arith, inside)) (omega (arith, there)) tail in
    cc
