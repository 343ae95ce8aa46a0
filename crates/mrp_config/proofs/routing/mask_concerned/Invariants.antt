use Rattle.std.proofs.Common.{◌≡◌, ◌+◌, ◌<◌, ◌^◌, drop}
use Rattle.std.specs.List.{AllByRecursion}
use Rattle.mrp_config.specs.declared.tables.PartitionTable.{PartitionTable}
use Rattle.mrp_config.specs.Routing.{mask_of}
use Rattle.mrp_config.proofs.routing.mask_concerned.Given as goal

-- the bits so far and those still to add, which fit
abbrev pub invariant-loop-p : goal.invariant-loop-p
invariant-loop-p l = record {
  all : l.mask + mask_of l.command (drop l.p-index l.partitions) ≡ mask_of l.command l.partitions;
  fits : mask_of l.command l.partitions < 2 ^ 16;
  low : AllByRecursion (λ (p : PartitionTable). p.id.0 < 16) (drop l.p-index l.partitions);
}
