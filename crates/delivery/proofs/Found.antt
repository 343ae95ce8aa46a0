-- Finding the map of a place's ring.
use Rattle.std.proofs.Common.{arith, ◌≡◌, ℕ, zero, suc, ◌==◌, ◌<◌, ◌≤◌, Bool, true, false, if◌then◌else◌, List, [], ◌∷◌, length, get_or, refl, sym, ap, subst, ◌∙◌}
use Rattle.std.specs.Prelude.{Option, Some, None}
use Rattle.mrp_types.specs.declared.id.RingId.{RingId}
use Rattle.mrp_types.specs.declared.value.Value.{Value}
use Rattle.mrp_types.specs.Moves.{rings_of}
use Rattle.range_map.specs.Entries.{value_at}
use Rattle.merge.specs.Merged.{learned_at}
use Rattle.merge.specs.Looked.{map_at}

abbrev pub none : RingId × ℕ
none = ((record { 0 = 0 }), 0)

-- the first i rings are others than the place's
abbrev pub AreOthers : ℕ → List (RingId × ℕ) → RingId → Type 0
AreOthers i pairs ring = (k : ℕ) → k < i → (get_or pairs k none).0.0 ≡ ring.0 → ⊥

is_same : (a b : ℕ) → a ≡ b → (a == b) ≡ true
is_same a b h = grind arith

is_other : (a b : ℕ) → (a ≡ b → ⊥) → (a == b) ≡ false
is_other a b h = grind arith

later : (i : ℕ) (x : RingId × ℕ) (pairs : List (RingId × ℕ)) (ring : RingId) → AreOthers (suc i) (x ∷ pairs) ring → AreOthers i pairs ring
later i x pairs ring others = λ k less. others (suc k) (omega (arith, less))

-- the map of the place's ring stands at its position
found_at : (i : ℕ) (pairs : List (RingId × ℕ)) (place : RingId × ℕ) (maps : List (List (ℕ × Value))) → AreOthers i pairs place.0 → (get_or pairs i none).0.0 ≡ place.0.0 → i < length pairs →
    length maps ≡ length pairs → learned_at (rings_of pairs) maps place ≡ value_at place.1 (map_at maps i)
found_at i [] place maps others is inside same = absurd (omega (arith, inside))
found_at i (x ∷ pairs) place [] others is inside same = absurd (omega (arith, same))
found_at zero (x ∷ pairs) place (map ∷ maps) others is inside same = ap (λ (t : Bool). if t then value_at place.1 map else learned_at (rings_of pairs) maps place) (is_same x.0.0 place.0.0 is)
found_at (suc i) (x ∷ pairs) place (map ∷ maps) others is inside same =
    ap (λ (t : Bool). if t then value_at place.1 map else learned_at (rings_of pairs) maps place) (is_other x.0.0 place.0.0 (others 0 (omega arith)))
    ∙ found_at i pairs place maps (later i x pairs place.0 others) is (omega (arith, inside)) (omega (arith, same))

-- no ring is the place's
none_at : (pairs : List (RingId × ℕ)) (place : RingId × ℕ) (maps : List (List (ℕ × Value))) → AreOthers (length pairs) pairs place.0 → learned_at (rings_of pairs) maps place ≡ None
none_at [] place maps others = refl
none_at (x ∷ pairs) place [] others = refl
none_at (x ∷ pairs) place (map ∷ maps) others =
    ap (λ (t : Bool). if t then value_at place.1 map else learned_at (rings_of pairs) maps place) (is_other x.0.0 place.0.0 (others 0 (omega arith)))
    ∙ none_at pairs place maps (later (length pairs) x pairs place.0 others)

-- ---- by the pairs of a tuple

pub found : (tuple pairs : List (RingId × ℕ)) (i : ℕ) (place : RingId × ℕ) (maps : List (List (ℕ × Value))) (o : Option Value) (held : List (ℕ × Value)) → pairs ≡ tuple → AreOthers i pairs place.0 →
    (get_or pairs i none).0.0 ≡ place.0.0 → i < length pairs → length maps ≡ length tuple → o ≡ value_at place.1 held → held ≡ map_at maps i → o ≡ learned_at (rings_of tuple) maps place
found tuple pairs i place maps o held same others is inside many there at =
    there ∙ ap (λ (m : List (ℕ × Value)). value_at place.1 m) at ∙ sym (found_at i pairs place maps others is inside (many ∙ ap (λ (t : List (RingId × ℕ)). length t) (sym same)))
    ∙ ap (λ (t : List (RingId × ℕ)). learned_at (rings_of t) maps place) same

pub none_there : (tuple pairs : List (RingId × ℕ)) (i : ℕ) (place : RingId × ℕ) (maps : List (List (ℕ × Value))) → pairs ≡ tuple → AreOthers i pairs place.0 → length pairs ≤ i → learned_at (rings_of tuple) maps place ≡ None
none_there tuple pairs i place maps same others over =
    ap (λ (t : List (RingId × ℕ)). learned_at (rings_of t) maps place) (sym same) ∙ none_at pairs place maps (λ k less. others k (omega (arith, less, over)))
