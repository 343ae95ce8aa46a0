use Rattle.std.proofs.Common.{◌≡◌, drop, map}
use Rattle.toml.specs.View.{table_view}
use Rattle.mrp_config.specs.Walk.{rings_of}
use Rattle.config_walk.proofs.Chains.{before}
use Rattle.mrp_config.proofs.walk.nodes.each_ring.Given as goal

-- what was read so far and what is still read are all of it
abbrev pub invariant-loop-table : goal.invariant-loop-table
invariant-loop-table l =
    before l.rings.items (rings_of l.usual l.nodes l.least (map (λ t. table_view t.now) (drop l.table-index l.tables))) ≡ rings_of l.usual l.nodes 0 (map (λ t. table_view t.now) l.tables)
