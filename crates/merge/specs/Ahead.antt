-- Up to where the places of each ring are known to be skips.
use Rattle.std.specs.Prelude.{ℕ, ◌+◌, ◌<◌, ◌≤◌, ◌^◌, ◌≡◌, ◌≢◌, nat_lt, false, if◌then◌else◌, List, [], ◌∷◌, Some}
use Rattle.mrp_types.specs.declared.id.RingId.{RingId}
use Rattle.mrp_types.specs.declared.value.Value.{Value}
use Rattle.mrp_types.specs.declared.value.Value.TheVariants.{Skip}
use Rattle.mrp_types.specs.declared.place.Place.{Place}
use Rattle.mrp_types.specs.Places.{place_lt}
use Rattle.mrp_types.specs.Moves.{place_of}
use Rattle.range_map.specs.Entries.{value_at}

-- of one ring: from its entry on up to the second one are skips, and where that is past the entry none goes on there
pub record IsAhead (x y : RingId × ℕ) (map : List (ℕ × Value)) : Type 0 where
  pub ring : y.0 ≡ x.0
  pub from_there : x.1 ≤ y.1
  pub within : y.1 ≤ 2 ^ 40
  pub skips : (i : ℕ) → x.1 ≤ i → i < y.1 → value_at i map ≡ Some Skip
  pub ended : x.1 < y.1 → value_at y.1 map ≢ Some Skip

abbrev pub AreAhead : List (RingId × ℕ) → List (RingId × ℕ) → List (List (ℕ × Value)) → Type 0
AreAhead [] [] [] = Unit {0}
AreAhead (x ∷ tuple) (y ∷ ahead) (map ∷ maps) = IsAhead x y map × AreAhead tuple ahead maps
AreAhead tuple ahead maps = ⊥

-- of how many rings some places are passed
abbrev pub count_ahead : List (RingId × ℕ) → List (RingId × ℕ) → ℕ
count_ahead (x ∷ tuple) (y ∷ ahead) = (if nat_lt x.1 y.1 then 1 else 0) + count_ahead tuple ahead
count_ahead tuple ahead = 0

-- the rounds of these rings hold something
abbrev pub AreSized : (ℕ → ℕ) → List (RingId × ℕ) → Type 0
AreSized m [] = Unit {0}
AreSized m (x ∷ pairs) = (1 ≤ m x.0.0) × AreSized m pairs

-- none of these places comes before a place, nor is past the end
abbrev pub AreLate : (ℕ → ℕ) → Place → List (RingId × ℕ) → Type 0
AreLate m place [] = Unit {0}
AreLate m place (x ∷ pairs) = (place_lt m (place_of x) place ≡ false) × (x.1 ≤ 2 ^ 40) × AreLate m place pairs
