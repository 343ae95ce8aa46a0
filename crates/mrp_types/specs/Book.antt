-- The book: what was learned first of each instance of each ring.
use Rattle.std.specs.Prelude.{ℕ, ◌==◌, nat_le, nat_lt, Bool, ◌&&◌, if◌then◌else◌, Option, Some, None, List, [], ◌∷◌}
use Rattle.mrp_types.specs.declared.id.RingId.{RingId}
use Rattle.mrp_types.specs.declared.value.Value.{Value}

-- a value was learned for the instances lo to hi - 1 of a ring
pub record Learning : Type 0 where
  pub ring : RingId
  pub lo : ℕ
  pub hi : ℕ
  pub value : Value

-- whether it speaks of this instance
abbrev pub covers : Learning → RingId → ℕ → Bool
covers l ring inst = (l.ring.0 == ring.0) && (nat_le l.lo inst && nat_lt inst l.hi)

-- the value of the first that speaks of the instance, in the order in which they were learned
abbrev pub book_of : List Learning → RingId → ℕ → Option Value
book_of [] ring inst = None
book_of (l ∷ later) ring inst = if covers l ring inst then Some l.value else book_of later ring inst
