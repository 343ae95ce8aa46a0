use Rattle.std.proofs.Common.{◌≡◌, drop}
use Rattle.mrp_config.specs.Routing.{all_have, concerned_of}
use Rattle.mrp_config.proofs.routing.all_subscribe.Given as goal

-- what is left to look through
abbrev pub invariant-loop-p : goal.invariant-loop-p
invariant-loop-p l = all_have (concerned_of l.command (drop l.p-index l.others)) l.ring.0 ≡ all_have (concerned_of l.command l.others) l.ring.0
