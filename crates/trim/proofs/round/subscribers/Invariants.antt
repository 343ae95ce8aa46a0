use Rattle.std.proofs.Common.{◌≡◌, ◌≤◌, ◌++◌, drop, map, length}
use Rattle.std.specs.List.{AllByRecursion}
use Rattle.mrp_types.specs.Seats.{numbers_of_nodes}
use Rattle.mrp_config.specs.declared.tables.PartitionTable.{PartitionTable}
use Rattle.mrp_config.specs.Config.{subscribers_of}
use Rattle.mrp_config.specs.Valid.{AreAtMost}
use Rattle.trim.specs.Quorums.{IsOfNodes, subscriber_of}
use Rattle.trim.proofs.round.subscribers.Given as goal

-- those found and those still to find
abbrev pub invariant-loop-p : goal.invariant-loop-p
invariant-loop-p l = record {
  all : l.found ++ map subscriber_of (subscribers_of (drop l.p-index l.partitions) l.ring) ≡ map subscriber_of (subscribers_of l.partitions l.ring);
  few : length l.found ≤ l.p-index;
  nodes : AllByRecursion IsOfNodes l.found;
  rest : AllByRecursion (λ (p : PartitionTable). AreAtMost 31 (numbers_of_nodes p.replicas)) (drop l.p-index l.partitions);
}
