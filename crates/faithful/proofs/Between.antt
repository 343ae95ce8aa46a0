-- Places between valid tuples.
use Rattle.std.proofs.Common.{◌≡◌, ℕ, true, List}
use Rattle.mrp_types.specs.declared.id.RingId.{RingId}
use Rattle.mrp_types.specs.declared.place.Place.{Place}
use Rattle.mrp_types.specs.Places.{place_lt}
use Rattle.mrp_types.proofs.PlaceOrder.{in_one_order}
use Rattle.protocol.specs.Lines.{Line}
use Rattle.plain_model.specs.Tuples.{is_valid_tuple, is_tuple_of, IsBelow, IsNotBelow}
use Rattle.plain_model.proofs.TupleOrder.{valid_is_front, false_not_true}
use Rattle.faithful.specs.Rules.{BySkips}
use Rattle.faithful.proofs.Ordering.{Reaches-refl, is_reaches, is_valid}

-- no place is below a valid tuple and not below it
pub none_between : (m : ℕ → ℕ) (k : List (RingId × ℕ)) → is_valid_tuple m k ≡ true → (p : Place) → IsBelow p k → IsNotBelow p k → ⊥
none_between m k valid p below not = false_not_true (place_lt m p p) ((in_one_order m).irreflexive p) (valid_is_front m k valid p p below not)

pub BySkips-refl : (m : ℕ → ℕ) (rings : List RingId) (lines : List Line) (k : List (RingId × ℕ)) → is_tuple_of m rings k ≡ true → BySkips m rings lines k k
BySkips-refl m rings lines k valid = record {
  from = valid;
  to = valid;
  after = is_reaches k k (Reaches-refl _);
  skips = λ p below not. absurd (none_between m k (is_valid m rings k valid) p below not);
}
