use Rattle.toml.specs.View.{table_view}
use Rattle.mrp_config.proofs.AcceptedConfigs.{parts_saw}
use Rattle.mrp_config.proofs.deployment.read_config.Goals as goal

pub invariant_of-result : goal.invariant_of-result
invariant_of-result c =
    parts_saw (table_view c.args.table.now) c.in_ok-numbers.numbers c.in_ok-nodes.nodes.items c.in_ok-clients.clients.items c.in_ok-rings.rings.items c.in_ok-partitions.partitions.items _
    c.in_ok-numbers.ensures c.in_ok-nodes.ensures c.in_ok-clients.ensures
    (rw (c.deref-2.ensures.value, c.in_ok-nodes_there.ensures, c.deref.ensures.value) at c.in_ok-rings.ensures)
    (rw (c.deref-4.ensures.value, c.deref-5.ensures.value, c.in_ok-nodes_there.ensures, c.in_ok-rings_there.ensures, c.deref.ensures.value, c.deref-3.ensures.value) at c.in_ok-partitions.ensures)
    (rw c.deref-6.ensures.value at c.in_ok-judge.ensures)
