-- What a deployment says of a partition that is found.
use Rattle.std.proofs.Common.{arith, ◌≡◌, ℕ, suc, ◌≤◌, ◌==◌, Bool, true, false, List, [], ◌∷◌, length, refl, ap, subst, Some, if◌then◌else◌}
use Rattle.std.proofs.lemmas.Option.{none-some}
use Rattle.std.specs.Option.{unwrap_or}
use Rattle.std.specs.List.{AllByRecursion}
use Rattle.mrp_types.specs.declared.id.NodeId.{NodeId}
use Rattle.mrp_types.specs.Seats.{numbers_of_nodes}
use Rattle.mrp_config.specs.declared.tables.PartitionTable.{PartitionTable}
use Rattle.mrp_config.specs.Config.{partition_at}
use Rattle.mrp_config.specs.Valid.{AreAtMost, AreQuorums, ArePartitions, IsPartition}

same_table : (q p : PartitionTable) → Some q ≡ Some p → q ≡ p
same_table q p found = ap (λ o. unwrap_or o q) found

-- what holds of all partitions holds of one that is found
pub of_found : (P : PartitionTable → Type 0) (ps : List PartitionTable) (n : ℕ) (p : PartitionTable) → AllByRecursion P ps → partition_at ps n ≡ Some p → P p
of_found P [] n p each found = absurd (none-some p found)
of_found P (q ∷ ps) n p each found = by_test (q.id.0 == n) found (of_found P ps n p each.1)
  where
    by_test : (t : Bool) → (if t then Some q else partition_at ps n) ≡ Some p → (partition_at ps n ≡ Some p → P p) → P p
    by_test true found later = subst P (same_table q p found) each.0
    by_test false found later = later found

same_length : (nodes : List NodeId) → length (numbers_of_nodes nodes) ≡ length nodes
same_length [] = refl
same_length (node ∷ nodes) = ap (λ n. suc n) (same_length nodes)

pub low_replicas : (nodes rings : List ℕ) (ps : List PartitionTable) (n : ℕ) (p : PartitionTable) → ArePartitions nodes rings ps → partition_at ps n ≡ Some p → AreAtMost 31 (numbers_of_nodes p.replicas)
low_replicas nodes rings ps n p valid found = (of_found (IsPartition nodes rings) ps n p valid.each found).replicas.numbers

pub few_needed : (nodes rings : List ℕ) (ps : List PartitionTable) (n : ℕ) (p : PartitionTable) → ArePartitions nodes rings ps → partition_at ps n ≡ Some p → p.recovery_quorum ≤ 7
few_needed nodes rings ps n p valid found =
    let of_p = of_found (IsPartition nodes rings) ps n p valid.each found in
    let quorums = of_found (λ (q : PartitionTable). AreQuorums (length q.replicas) q.trim_quorum q.recovery_quorum) ps n p valid.quorums found in
    omega (arith, of_p.replicas.few, quorums.recovers, same_length p.replicas)
