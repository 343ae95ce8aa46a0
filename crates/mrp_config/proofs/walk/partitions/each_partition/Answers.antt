use Rattle.toml.specs.View.{table_view}
use Rattle.toml.specs.Data.{Members}
use Rattle.mrp_config.specs.Walk.{Asked, asked_after, partition_of}
use Rattle.config_walk.proofs.Chains.{goes_on}
use Rattle.config_walk.proofs.Views.{one_more}
use Rattle.mrp_config.proofs.walk.partitions.each_partition.Goals as goal

pub loop-table-preserved : goal.loop-table-preserved
loop-table-preserved c =
    rw (c.from-least.ensures, c.in_ok-take_replicas.ensures.ok) (goes_on (λ (asked : Asked) (t : Members). partition_of c.args.nodes.now c.args.rings.now asked.0 asked.1 t) asked_after (c.loop-table.taken.items, c.loop-table.least) c.loop-table.partitions.items c.push.new.self.items _ _ _ c.in_ok-partition.partition _
    (one_more (λ t. table_view t.now) c.args.tables.now c.loop-table.table-index _ c.loop-table-test.true c.table-item.is) (rw c.deref.ensures.value at c.in_ok-partition.ensures.walk) c.in_ok-push.ensures.items c.loop-table.invariant)
