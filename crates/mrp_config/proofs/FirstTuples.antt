-- The rings of a valid partition have a tuple of nothing.
use Rattle.std.proofs.Common.{arith, ◌≡◌, ℕ, ◌+◌, ◌≤◌, ◌^◌, List, [], ◌∷◌, length, lit≤}
use Rattle.std.proofs.lemmas.List.{length-map}
use Rattle.mrp_types.specs.declared.id.RingId.{RingId}
use Rattle.mrp_types.specs.Moves.{first_tuple}
use Rattle.mrp_types.specs.Tuples.{AreNexts, IsTuple}
use Rattle.mrp_config.specs.declared.tables.PartitionTable.{PartitionTable}
use Rattle.mrp_config.specs.Valid.{IncreasesFrom, AreAtMost, IsPartition, numbers_of_rings}

nexts_of : (least : ℕ) (rings : List RingId) → IncreasesFrom least (numbers_of_rings rings) → AreAtMost 15 (numbers_of_rings rings) → AreNexts least (first_tuple rings)
nexts_of least [] rise low = tt
nexts_of least (ring ∷ rings) rise low =
    let one = low.0 in
    let zero_fits : 0 ≤ 2 ^ 40 = lit≤ tt in
    (rise.0, omega (arith, one), zero_fits, nexts_of (ring.0 + 1) rings rise.1 low.1)

pub first_is_tuple : (nodes rings : List ℕ) (p : PartitionTable) → IsPartition nodes rings p → IsTuple (first_tuple p.rings)
first_is_tuple nodes rings p is =
    let many : length (first_tuple p.rings) ≡ length p.rings = length-map p.rings (λ (ring : RingId). (ring, 0)) in
    record {
      some = rw many is.some.0;
      few = rw many is.some.1;
      nexts = nexts_of 0 p.rings is.increase is.numbers;
    }
