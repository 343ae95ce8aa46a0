-- What is used of a deployment is so of every valid one.
use Rattle.std.proofs.Common.{◌≡◌, Some, arith}
use Rattle.mrp_types.specs.declared.id.NodeId.{NodeId}
use Rattle.mrp_config.specs.Config.{Config, partition_of}
use Rattle.mrp_config.specs.Walk.{node_ids, ring_ids}
use Rattle.mrp_config.specs.Valid.{IsValid, IsPartition}
use Rattle.mrp_config.specs.declared.tables.PartitionTable.{PartitionTable}
use Rattle.state_laws.proofs.Batches.{partition-limits, rounds-some}
use Rattle.faithful.proofs.Quorum.{all_has, partition_there}
use Rattle.state_steps.specs.States.{HasLimits, IsLimited}

pub valid_limited : (c : Config) → IsValid c → IsLimited c
valid_limited c valid = record { rounds = λ ring. rounds-some c ring valid; partitions = limits }
  where
    limits : (node : NodeId) (p : PartitionTable) → partition_of c.partitions node ≡ Some p → HasLimits p
    limits node p e =
        let is : IsPartition (node_ids c.nodes) (ring_ids c.rings) p = all_has (IsPartition (node_ids c.nodes) (ring_ids c.rings)) c.partitions p valid.partitions.each (partition_there c.partitions node p e).there in
        let few = partition-limits (node_ids c.nodes) (ring_ids c.rings) p is in
        record { logs = few.0; rising = few.1; some = omega (arith, is.some.0) }
