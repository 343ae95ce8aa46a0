use Rattle.std.proofs.Common.{ℕ, ◌+◌, map}
use Rattle.toml.specs.View.{table_view}
use Rattle.mrp_config.specs.declared.tables.NodeTable.{NodeTable}
use Rattle.mrp_config.specs.Walk.{node_of, nodes_of}
use Rattle.config_walk.proofs.Chains.{begins, goes_on, ends, is_done}
use Rattle.config_walk.proofs.Views.{one_more, none_more}
use Rattle.mrp_config.proofs.walk.nodes.each_node.Goals as goal

pub loop-table-init : goal.loop-table-init
loop-table-init c = begins c.new-nodes.result.items (nodes_of 0 (map (λ t. table_view t.now) c.args.tables.now)) c.new-nodes.ensures.items

pub returns-in_err-node : goal.returns-in_err-node
returns-in_err-node c =
    ends _ node_of (λ (least : ℕ) (node : NodeTable). node.id.0 + 1) c.loop-table.least c.loop-table.nodes.items _ _ _ _ c.in_err-node.field-0.0 c.from_residual.result
    c.from_residual.ensures.1 (one_more (λ t. table_view t.now) c.args.tables.now c.loop-table.table-index _ c.loop-table-test.true c.table-item.is) c.in_err-node.ensures c.loop-table.invariant

pub loop-table-preserved : goal.loop-table-preserved
loop-table-preserved c =
    rw c.from-least.ensures (goes_on node_of (λ (least : ℕ) (node : NodeTable). node.id.0 + 1) c.loop-table.least c.loop-table.nodes.items c.push.new.self.items _ _ _ c.in_ok-node.node _
    (one_more (λ t. table_view t.now) c.args.tables.now c.loop-table.table-index _ c.loop-table-test.true c.table-item.is) c.in_ok-node.ensures c.in_ok-push.ensures.items c.loop-table.invariant)

pub returns : goal.returns
returns c = is_done node_of (λ (least : ℕ) (node : NodeTable). node.id.0 + 1) c.loop-table.least c.loop-table.nodes.items _ _ (none_more (λ t. table_view t.now) c.args.tables.now c.loop-table.table-index c.loop-table-test.false) c.loop-table.invariant
