use Rattle.std.proofs.Common.{◌≡◌, drop}
use Rattle.mrp_config.specs.Config.{has_node}
use Rattle.recovery.proofs.attempt.is_one_of.Given as goal

-- what is left decides
abbrev pub invariant-loop-other : goal.invariant-loop-other
invariant-loop-other l = has_node (drop l.other-index l.nodes) l.node.0 ≡ has_node l.nodes l.node.0
