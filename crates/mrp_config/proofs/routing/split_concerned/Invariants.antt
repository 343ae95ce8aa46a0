use Rattle.std.proofs.Common.{◌≡◌, drop}
use Rattle.mrp_config.specs.Routing.{first_concerned}
use Rattle.mrp_config.proofs.routing.split_concerned.Given as goal

-- what is left to look through
abbrev pub invariant-loop-index : goal.invariant-loop-index
invariant-loop-index l = first_concerned l.command (drop l.index l.partitions) ≡ first_concerned l.command l.partitions
