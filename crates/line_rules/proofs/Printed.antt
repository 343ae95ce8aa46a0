-- Tuples as lines print them.
use Rattle.std.proofs.Common.{◌≡◌, ℕ, true, List, [], ◌∷◌, refl, ◌∙◌, ap}
use Rattle.std.specs.Prelude.{◌==◌}
use Rattle.mrp_types.specs.declared.id.RingId.{RingId}
use Rattle.plain_model.specs.Tuples.{has_rings, is_tuple_of, is_valid_tuple, instances}
use Rattle.plain_model.proofs.TupleOrder.{split_and, same_number}
use Rattle.plain_model.proofs.TupleChain.{by_entries, by_parts_of_list}
use Rattle.line_rules.specs.Scanners.{paired}
use Rattle.line_rules.proofs.Words.{no_true}

-- a tuple is told by its instances
pub paired_same : (rings : List RingId) (k : List (RingId × ℕ)) → has_rings rings k ≡ true → paired rings (instances k) ≡ k
paired_same [] [] h = refl
paired_same [] (x ∷ xs) h = no_true h
paired_same (ring ∷ rings) [] h = no_true h
paired_same (ring ∷ rings) (x ∷ xs) h =
    let s = split_and (ring.0 == x.0.0) (has_rings rings xs) h in
    by_parts_of_list (ring, x.1) x (paired rings (instances xs)) xs (by_entries (ring, x.1) x (same_number ring.0 x.0.0 s.0) refl) (paired_same rings xs s.1)

pub rings_fit : (m : ℕ → ℕ) (rings : List RingId) (k : List (RingId × ℕ)) → is_tuple_of m rings k ≡ true → has_rings rings k ≡ true
rings_fit m rings k h = (split_and (has_rings rings k) (is_valid_tuple m k) h).0

-- the tuple that a line prints
pub printed_is : (m : ℕ → ℕ) (rings : List RingId) (printed : List ℕ) (k : List (RingId × ℕ)) → is_tuple_of m rings k ≡ true → printed ≡ instances k → paired rings printed ≡ k
printed_is m rings printed k valid shown = ap (λ (xs : List ℕ). paired rings xs) shown ∙ paired_same rings k (rings_fit m rings k valid)
