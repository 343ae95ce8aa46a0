-- Where the rings of a case begin.
use Rattle.std.specs.Prelude.{ℕ, List}
use Rattle.mrp_types.specs.declared.id.RingId.{RingId}
use Rattle.mrp_types.specs.Tuples.{AreNexts}

-- whatever may follow from this ring on, it makes the whole one that is in order
abbrev pub Follows : ℕ → List (RingId × ℕ) → List (RingId × ℕ) → Type 0
Follows least rest pairs = AreNexts least rest → AreNexts 0 pairs
