use Rattle.std.proofs.Common.{◌≡◌, drop}
use Rattle.mrp_config.specs.Routing.{common, concerned_of}
use Rattle.mrp_config.proofs.routing.common_ring.Given as goal

-- what is left to look through
abbrev pub invariant-loop-ring : goal.invariant-loop-ring
invariant-loop-ring l = common (concerned_of l.command l.others) (drop l.ring-index l.rings) ≡ common (concerned_of l.command l.others) l.rings
