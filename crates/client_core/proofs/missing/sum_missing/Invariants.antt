use Rattle.std.proofs.Common.{◌≡◌, ◌+◌, ◌<◌, ◌^◌, drop}
use Rattle.std.specs.List.{AllByRecursion}
use Rattle.mrp_config.specs.declared.tables.PartitionTable.{PartitionTable}
use Rattle.client_core.specs.Missing.{missing_bits, HasBitOf}
use Rattle.client_core.proofs.missing.sum_missing.Given as goal

-- the bits so far and those still to add, which fit
abbrev pub invariant-loop-p : goal.invariant-loop-p
invariant-loop-p l = record {
  all : l.bits + missing_bits l.command l.parts (drop l.p-index l.partitions) ≡ missing_bits l.command l.parts l.partitions;
  fits : missing_bits l.command l.parts l.partitions < 2 ^ 16;
  low : AllByRecursion (λ (p : PartitionTable). p.id.0 < 16) (drop l.p-index l.partitions);
  concerned : AllByRecursion (HasBitOf l.command l.concerned) (drop l.p-index l.partitions);
}
