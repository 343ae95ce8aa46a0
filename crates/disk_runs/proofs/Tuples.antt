-- The tuple of a ready replica has a spelling: of the partition's rings, and with no instance past the end, since each place below it
-- was learned.
use Rattle.std.proofs.Common.{◌≡◌, inl, inr, ℕ, zero, suc, ◌+◌, ◌<◌, ◌≤◌, ◌^◌, ◌==◌, true, List, [], ◌∷◌, length, refl, ap, subst, arith}
use Rattle.std.specs.List.{AllByRecursion}
use Rattle.mrp_types.specs.declared.id.RingId.{RingId}
use Rattle.mrp_types.specs.declared.id.TheConstants.{END}
use Rattle.mrp_types.specs.declared.place.Place.{Place}
use Rattle.mrp_types.specs.Moves.{has_rings, is_valid_tuple, is_tuple_of, IsBelow}
use Rattle.mrp_types.specs.Tuples.{AreNexts, IsTuple}
use Rattle.mrp_config.specs.Config.{Config}
use Rattle.mrp_config.specs.declared.tables.PartitionTable.{PartitionTable}
use Rattle.mrp_config.specs.Valid.{IncreasesFrom, AreAtMost, IsPartition, numbers_of_rings}
use Rattle.plain_model.proofs.TupleOrder.{same_number, split_and}
use Rattle.protocol.specs.Lines.{Line, Learn}
use Rattle.faithful.proofs.Quorum.{all_has}
use Rattle.faithful.specs.Rules.{AllKnown}
use Rattle.valid_runs.specs.Worlds.{LineFits}
use Rattle.line_runs.specs.Invariant.{latest_first}
use Rattle.line_runs.proofs.Laws.{book_line, in_order}

-- a place that is in the book is before the end
known_below : (config : Config) (lines : List Line) → AllByRecursion (LineFits config) lines → (tuple : List (RingId × ℕ)) → AllKnown (latest_first lines) tuple → (place : Place) → IsBelow place tuple → place.inst < END
known_below config lines fit tuple known place below =
    let is = known place below in
    let l = book_line (latest_first lines) place.ring place.inst is.0 is.1 in
    let fits : LineFits config (Learn l.by_node place.ring l.lo l.hi is.0) = all_has (LineFits config) lines (Learn l.by_node place.ring l.lo l.hi is.0) fit (in_order lines (Learn l.by_node place.ring l.lo l.hi is.0) l.there) in
    before place.inst l.hi l.to fits.decided.end
  where
    before : (inst hi : ℕ) → inst < hi → hi ≤ END → inst < END
    before inst hi low end = omega arith

-- so no entry is past it
entry_low : (x : RingId × ℕ) → ((place : Place) → place.ring.0 ≡ x.0.0 → place.inst < x.1 → place.inst < END) → x.1 ≤ 2 ^ 40
entry_low (ring, zero) below = omega arith
entry_low (ring, suc n) below = let last : n < END = below (record { ring = ring; inst = n }) refl (omega arith) in omega arith

nexts : (least : ℕ) (rings : List RingId) (tuple : List (RingId × ℕ)) → IncreasesFrom least (numbers_of_rings rings) → AreAtMost 15 (numbers_of_rings rings) → has_rings rings tuple ≡ true
    → ((place : Place) → IsBelow place tuple → place.inst < END) → AreNexts least tuple
nexts least [] [] rise low has below = tt
nexts least [] (x ∷ tuple) rise low has below = absurd cc
nexts least (ring ∷ rings) [] rise low has below = absurd cc
nexts least (ring ∷ rings) (x ∷ tuple) rise low has below =
    let s = split_and (ring.0 == x.0.0) (has_rings rings tuple) has in
    let same : ring.0 ≡ x.0.0 = same_number ring.0 x.0.0 s.0 in
    let first = rise.0 in
    let small = low.0 in (
      omega (arith, first, same),
      omega (arith, small, same),
      entry_low x (λ place here under. below place (inl (here, under))),
      nexts (x.0.0 + 1) rings tuple (subst (λ (n : ℕ). IncreasesFrom (n + 1) (numbers_of_rings rings)) same rise.1) low.1 s.1 (λ place under. below place (inr under)),
    )

as_many : (rings : List RingId) (tuple : List (RingId × ℕ)) → has_rings rings tuple ≡ true → length tuple ≡ length rings
as_many [] [] has = refl
as_many [] (x ∷ tuple) has = absurd cc
as_many (ring ∷ rings) [] has = absurd cc
as_many (ring ∷ rings) (x ∷ tuple) has = ap (λ n. suc n) (as_many rings tuple (split_and (ring.0 == x.0.0) (has_rings rings tuple) has).1)

pub known_spelled : (config : Config) (lines : List Line) → AllByRecursion (LineFits config) lines → (nodes others : List ℕ) (p : PartitionTable) → IsPartition nodes others p → (m : ℕ → ℕ) (tuple : List (RingId × ℕ))
    → is_tuple_of m p.rings tuple ≡ true → AllKnown (latest_first lines) tuple → IsTuple tuple
known_spelled config lines fit nodes others p is m tuple valid known =
    let has = (split_and (has_rings p.rings tuple) (is_valid_tuple m tuple) valid).0 in
    let many = as_many p.rings tuple has in
    let some = is.some in
    record {
      some = omega (arith, many, some.0);
      few = omega (arith, many, some.1);
      nexts = nexts 0 p.rings tuple is.increase is.numbers has (known_below config lines fit tuple known);
    }
