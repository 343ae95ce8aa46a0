-- Merges by sizes that are the same at the rings of tuples.
use Rattle.std.proofs.Common.{arith, ◌≡◌, ℕ, zero, suc, ◌<◌, ◌+◌, ◌/◌, Bool, true, false, if◌then◌else◌, List, [], ◌∷◌, refl, sym, ap, subst, ◌∙◌}
use Rattle.std.specs.Prelude.{Option, Some, None, ◌==◌, nat_lt}
use Rattle.std.proofs.Math.Path.{ap₂}
use Rattle.mrp_types.specs.declared.id.RingId.{RingId}
use Rattle.mrp_types.specs.declared.place.Place.{Place}
use Rattle.mrp_types.specs.declared.value.Value.{Value}
use Rattle.mrp_types.specs.declared.value.Value.TheVariants.{Skip, Batch}
use Rattle.mrp_types.specs.Places.{place_lt, lt_then}
use Rattle.mrp_types.specs.Tuples.{AreNexts, IsTuple}
use Rattle.mrp_types.specs.Moves.{place_of, earlier, next_place, moved_one, moved_past, past, past_many, rings_of}
use Rattle.merge.specs.Merged.{learned_at, PassesSkips, FindsBatch, Delivers, Waits}

-- the same at the rings' numbers
abbrev pub Alike : (ℕ → ℕ) → (ℕ → ℕ) → Type 0
Alike m n = (ring : ℕ) → ring < 256 → m ring ≡ n ring

abbrev pub AreLow : List (RingId × ℕ) → Type 0
AreLow [] = Unit {0}
AreLow (x ∷ pairs) = (x.0.0 < 256) × AreLow pairs

pub nexts_low : (least : ℕ) (pairs : List (RingId × ℕ)) → AreNexts least pairs → AreLow pairs
nexts_low least [] nexts = tt
nexts_low least (x ∷ pairs) nexts = (omega (arith, nexts.1), nexts_low (x.0.0 + 1) pairs nexts.3)

low_moved : (place : RingId × ℕ) (pairs : List (RingId × ℕ)) → AreLow pairs → AreLow (moved_past place pairs)
low_moved place [] low = tt
low_moved place (x ∷ pairs) low = by (x.0.0 == place.0.0) (low_moved place pairs low.1)
  where
    by : (t : Bool) → AreLow (moved_past place pairs) → ((if t then (x.0, place.1 + 1) else x).0.0 < 256) × AreLow (moved_past place pairs)
    by true later = (low.0, later)
    by false later = (low.0, later)

low_many : (m : ℕ → ℕ) (k : ℕ) (pairs : List (RingId × ℕ)) → AreLow pairs → AreLow (past_many m k pairs)
low_many m zero pairs low = low
low_many m (suc k) pairs low = low_many m k (past m pairs) (low_moved (next_place m pairs) pairs low)

next_low : (m : ℕ → ℕ) (x : RingId × ℕ) (pairs : List (RingId × ℕ)) → AreLow (x ∷ pairs) → (next_place m (x ∷ pairs)).0.0 < 256
next_low m x [] low = low.0
next_low m x (y ∷ pairs) low = by (place_lt m (place_of (next_place m (y ∷ pairs))) (place_of x)) (next_low m y pairs low.1)
  where
    by : (t : Bool) → (next_place m (y ∷ pairs)).0.0 < 256 → (if t then next_place m (y ∷ pairs) else x).0.0 < 256
    by true later = later
    by false later = low.0

lt_alike : (m n : ℕ → ℕ) (a b : Place) → Alike m n → a.ring.0 < 256 → b.ring.0 < 256 → place_lt m a b ≡ place_lt n a b
lt_alike m n a b alike low lower =
    ap₂ (λ (u v : ℕ). lt_then (a.inst / u) (b.inst / v) (lt_then a.ring.0 b.ring.0 (nat_lt a.inst b.inst))) (alike a.ring.0 low) (alike b.ring.0 lower)

next_alike : (m n : ℕ → ℕ) (pairs : List (RingId × ℕ)) → Alike m n → AreLow pairs → next_place m pairs ≡ next_place n pairs
next_alike m n [] alike low = refl
next_alike m n (x ∷ []) alike low = refl
next_alike m n (x ∷ y ∷ pairs) alike low =
    ap (λ (z : RingId × ℕ). earlier m x z) (next_alike m n (y ∷ pairs) alike low.1)
    ∙ ap (λ (t : Bool). if t then next_place n (y ∷ pairs) else x) (lt_alike m n (place_of (next_place n (y ∷ pairs))) (place_of x) alike (next_low n y pairs low.1) low.0)

past_alike : (m n : ℕ → ℕ) (pairs : List (RingId × ℕ)) → Alike m n → AreLow pairs → past m pairs ≡ past n pairs
past_alike m n pairs alike low = ap (λ (z : RingId × ℕ). moved_past z pairs) (next_alike m n pairs alike low)

many_alike : (m n : ℕ → ℕ) (k : ℕ) (pairs : List (RingId × ℕ)) → Alike m n → AreLow pairs → past_many m k pairs ≡ past_many n k pairs
many_alike m n zero pairs alike low = refl
many_alike m n (suc k) pairs alike low =
    many_alike m n k (past m pairs) alike (low_moved (next_place m pairs) pairs low) ∙ ap (λ (t : List (RingId × ℕ)). past_many n k t) (past_alike m n pairs alike low)

stop_low : (m : ℕ → ℕ) (rings : List RingId) (maps : List (List (ℕ × Value))) (from stop : List (RingId × ℕ)) → AreLow from → PassesSkips m rings maps from stop → AreLow stop
stop_low m rings maps from stop low passes = subst (λ (t : List (RingId × ℕ)). AreLow t) passes.moved (low_many m passes.count from low)

passes_alike : (m n : ℕ → ℕ) (rings : List RingId) (maps : List (List (ℕ × Value))) (from stop : List (RingId × ℕ)) → Alike m n → AreLow from → PassesSkips m rings maps from stop → PassesSkips n rings maps from stop
passes_alike m n rings maps from stop alike low passes = record {
  count = passes.count;
  moved = sym (many_alike m n passes.count from alike low) ∙ passes.moved;
  skips = λ k less. subst (λ (x : RingId × ℕ). learned_at rings maps x ≡ Some Skip)
      (next_alike m n (past_many m k from) alike (low_many m k from low) ∙ ap (λ (t : List (RingId × ℕ)). next_place n t) (many_alike m n k from alike low))
      (passes.skips k less);
}

pub delivers_alike : (m n : ℕ → ℕ) (maps : List (List (ℕ × Value))) (old new : List (RingId × ℕ)) (place : Place) → Alike m n → AreLow old → Delivers m maps old place new → Delivers n maps old place new
delivers_alike m n maps old new place alike low d = record {
  stop = d.stop;
  finds = record {
    passes = passes_alike m n (rings_of old) maps old d.stop alike low d.finds.passes;
    next = ap place_of (sym same) ∙ d.finds.next;
    batch = d.finds.batch;
    holds = ap (λ (x : RingId × ℕ). learned_at (rings_of old) maps x) (sym same) ∙ d.finds.holds;
  };
  moved = sym (past_alike m n d.stop alike stopped) ∙ d.moved;
}
  where
    stopped : AreLow d.stop
    stopped = stop_low m (rings_of old) maps old d.stop low d.finds.passes

    same : next_place m d.stop ≡ next_place n d.stop
    same = next_alike m n d.stop alike stopped

pub waits_alike : (m n : ℕ → ℕ) (maps : List (List (ℕ × Value))) (old new : List (RingId × ℕ)) (ring : RingId) → Alike m n → AreLow old → Waits m maps old ring new → Waits n maps old ring new
waits_alike m n maps old new ring alike low w = record {
  passes = passes_alike m n (rings_of old) maps old new alike low w.passes;
  next = ap (λ (x : RingId × ℕ). x.0) (sym same) ∙ w.next;
  bare = ap (λ (x : RingId × ℕ). learned_at (rings_of old) maps x) (sym same) ∙ w.bare;
}
  where
    same : next_place m new ≡ next_place n new
    same = next_alike m n new alike (stop_low m (rings_of old) maps old new low w.passes)
