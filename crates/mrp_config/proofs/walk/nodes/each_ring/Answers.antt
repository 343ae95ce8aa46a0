use Rattle.std.proofs.Common.{ℕ, ◌+◌, map}
use Rattle.toml.specs.View.{table_view}
use Rattle.mrp_config.specs.declared.tables.RingTable.{RingTable}
use Rattle.mrp_config.specs.Walk.{ring_of, rings_of}
use Rattle.config_walk.proofs.Chains.{begins, goes_on, ends, is_done}
use Rattle.config_walk.proofs.Views.{one_more, none_more}
use Rattle.mrp_config.proofs.walk.nodes.each_ring.Goals as goal

pub loop-table-init : goal.loop-table-init
loop-table-init c = begins c.new-rings.result.items (rings_of c.args.usual c.args.nodes.now 0 (map (λ t. table_view t.now) c.args.tables.now)) c.new-rings.ensures.items

pub returns-in_err-ring : goal.returns-in_err-ring
returns-in_err-ring c =
    ends _ (ring_of c.args.usual c.args.nodes.now) (λ (least : ℕ) (ring : RingTable). ring.id.0 + 1) c.loop-table.least c.loop-table.rings.items _ _ _ _ c.in_err-ring.field-0.0 c.from_residual.result
    c.from_residual.ensures.1 (one_more (λ t. table_view t.now) c.args.tables.now c.loop-table.table-index _ c.loop-table-test.true c.table-item.is) c.in_err-ring.ensures c.loop-table.invariant

pub loop-table-preserved : goal.loop-table-preserved
loop-table-preserved c =
    rw c.from-least.ensures (goes_on (ring_of c.args.usual c.args.nodes.now) (λ (least : ℕ) (ring : RingTable). ring.id.0 + 1) c.loop-table.least c.loop-table.rings.items c.push.new.self.items _ _ _ c.in_ok-ring.ring _
    (one_more (λ t. table_view t.now) c.args.tables.now c.loop-table.table-index _ c.loop-table-test.true c.table-item.is) c.in_ok-ring.ensures c.in_ok-push.ensures.items c.loop-table.invariant)

pub returns : goal.returns
returns c = is_done (ring_of c.args.usual c.args.nodes.now) (λ (least : ℕ) (ring : RingTable). ring.id.0 + 1) c.loop-table.least c.loop-table.rings.items _ _ (none_more (λ t. table_view t.now) c.args.tables.now c.loop-table.table-index c.loop-table-test.false) c.loop-table.invariant
