-- What was learned, and ranges that a value meets instance by instance.
use Rattle.std.specs.Prelude.{◌≡◌, ℕ, ◌<◌, ◌≤◌, ◌^◌, List, Option, Some}
use Rattle.std.specs.List.{AllByRecursion}
use Rattle.mrp_types.specs.declared.value.Value.{Value}
use Rattle.command_codec.specs.Parts.{IsSpelled}
use Rattle.range_map.specs.Entries.{value_at, IsIncreasingFrom}

-- an instance below the end of all of them, and a value that has a spelling
abbrev pub IsLearned : ℕ × Value → Type 0
IsLearned e = (e.0 < 2 ^ 40) × IsSpelled e.1

-- what a learner may hold, in increasing order of instance
pub record AreLearned (held : List (ℕ × Value)) : Type 0 where
  pub each : AllByRecursion IsLearned held
  pub ordered : IsIncreasingFrom 0 held

-- From lo on and below `at` and hi each instance holds what `met` makes of what was held there and of v. All others hold
-- what they held.
pub record Fills {T : Type 0} (met : Option T → T → T) (v : T) (lo at hi : ℕ) (old new : List (ℕ × T)) : Type 0 where
  pub ordered : IsIncreasingFrom 0 new
  pub within : (i : ℕ) → lo ≤ i → i < at → i < hi → value_at i new ≡ Some (met (value_at i old) v)
  pub below : (i : ℕ) → i < lo → value_at i new ≡ value_at i old
  pub ahead : (i : ℕ) → at ≤ i → value_at i new ≡ value_at i old
  pub above : (i : ℕ) → hi ≤ i → value_at i new ≡ value_at i old
