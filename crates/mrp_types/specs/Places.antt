-- The one order of all places.
use Rattle.std.specs.Prelude.{ℕ, ◌/◌, ◌==◌, nat_lt, Bool, true, false, if◌then◌else◌, IsTrue, ◌≡◌, ◌⊎◌}
use Rattle.mrp_types.specs.declared.place.Place.{Place}

-- a is below b, or is b and the rest says so
abbrev pub lt_then : ℕ → ℕ → Bool → Bool
lt_then a b rest = if nat_lt a b then true else (if a == b then rest else false)

-- m says how many instances of a ring a round holds. A place stands before another by its round,
-- then by its ring, then by its instance.
abbrev pub place_lt : (ℕ → ℕ) → Place → Place → Bool
place_lt m a b = lt_then (a.inst / m a.ring.0) (b.inst / m b.ring.0) (lt_then a.ring.0 b.ring.0 (nat_lt a.inst b.inst))

-- a total order, as a test
pub record IsInOneOrder (before : Place → Place → Bool) : Type 0 where
  pub irreflexive : (a : Place) → before a a ≡ false
  pub transitive : (a b c : Place) → IsTrue (before a b) → IsTrue (before b c) → IsTrue (before a c)
  pub total : (a b : Place) → IsTrue (before a b) ⊎ ((a ≡ b) ⊎ IsTrue (before b a))
