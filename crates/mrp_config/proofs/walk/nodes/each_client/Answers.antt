use Rattle.std.proofs.Common.{ℕ, ◌+◌, map}
use Rattle.toml.specs.View.{table_view}
use Rattle.mrp_config.specs.declared.tables.ClientTable.{ClientTable}
use Rattle.mrp_config.specs.Walk.{client_of, clients_of}
use Rattle.config_walk.proofs.Chains.{begins, goes_on, ends, is_done}
use Rattle.config_walk.proofs.Views.{one_more, none_more}
use Rattle.mrp_config.proofs.walk.nodes.each_client.Goals as goal

pub loop-table-init : goal.loop-table-init
loop-table-init c = begins c.new-clients.result.items (clients_of 0 (map (λ t. table_view t.now) c.args.tables.now)) c.new-clients.ensures.items

pub returns-in_err-client : goal.returns-in_err-client
returns-in_err-client c =
    ends _ client_of (λ (least : ℕ) (client : ClientTable). client.id.0 + 1) c.loop-table.least c.loop-table.clients.items _ _ _ _ c.in_err-client.field-0.0 c.from_residual.result
    c.from_residual.ensures.1 (one_more (λ t. table_view t.now) c.args.tables.now c.loop-table.table-index _ c.loop-table-test.true c.table-item.is) c.in_err-client.ensures c.loop-table.invariant

pub loop-table-preserved : goal.loop-table-preserved
loop-table-preserved c =
    rw c.from-least.ensures (goes_on client_of (λ (least : ℕ) (client : ClientTable). client.id.0 + 1) c.loop-table.least c.loop-table.clients.items c.push.new.self.items _ _ _ c.in_ok-client.client _
    (one_more (λ t. table_view t.now) c.args.tables.now c.loop-table.table-index _ c.loop-table-test.true c.table-item.is) c.in_ok-client.ensures c.in_ok-push.ensures.items c.loop-table.invariant)

pub returns : goal.returns
returns c = is_done client_of (λ (least : ℕ) (client : ClientTable). client.id.0 + 1) c.loop-table.least c.loop-table.clients.items _ _ (none_more (λ t. table_view t.now) c.args.tables.now c.loop-table.table-index c.loop-table-test.false) c.loop-table.invariant
