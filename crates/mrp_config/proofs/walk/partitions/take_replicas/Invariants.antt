use Rattle.std.proofs.Common.{◌≡◌, ◌++◌, drop}
use Rattle.mrp_types.specs.Seats.{numbers_of_nodes}
use Rattle.mrp_config.proofs.walk.partitions.take_replicas.Given as goal

-- what was taken so far and what is still taken are all of it
abbrev pub invariant-loop-node : goal.invariant-loop-node
invariant-loop-node l = l.taken.items ++ numbers_of_nodes (drop l.node-index l.node-items) ≡ l.fn.taken.items ++ numbers_of_nodes l.replicas
