-- Numbers of rings.
use Rattle.std.specs.Prelude.{ℕ, ◌+◌, ◌≤◌, List, [], ◌∷◌, map}
use Rattle.mrp_types.specs.declared.id.RingId.{RingId}

-- each is greater than the one before it, the first at least `least`
abbrev pub IncreasesFrom : ℕ → List ℕ → Type 0
IncreasesFrom least [] = Unit {0}
IncreasesFrom least (n ∷ ns) = (least ≤ n) × IncreasesFrom (n + 1) ns

abbrev pub numbers_of_rings : List RingId → List ℕ
numbers_of_rings rings = map (λ (r : RingId). r.0) rings
