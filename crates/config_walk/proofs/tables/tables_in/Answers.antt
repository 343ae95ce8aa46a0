use Rattle.std.proofs.Common.{map, ap, ◌∙◌}
use Rattle.toml.specs.View.{view, table_view}
use Rattle.config_walk.specs.Values.{table_in, tables_in}
use Rattle.config_walk.proofs.Chains.{begins, goes_on, ends, is_done}
use Rattle.config_walk.proofs.Views.{one_more, none_more, map_last}
use Rattle.config_walk.proofs.tables.tables_in.Goals as goal

pub loop-value-init : goal.loop-value-init
loop-value-init c = begins _ (tables_in c.args.name.now (map view c.args.values.now)) (ap (map (λ t. table_view t.now)) c.new-tables.ensures.items)

pub returns-in_err-table_in : goal.returns-in_err-table_in
returns-in_err-table_in c =
    ends _ (λ (s : Unit {0}). table_in c.args.name.now) (λ s t. s) tt (map (λ t. table_view t.now) c.loop-value.tables.items) _ _ _ _ c.in_err-table_in.field-0.0 c.from_residual.result
    c.from_residual.ensures.1 (one_more view c.args.values.now c.loop-value.value-index _ c.loop-value-test.true c.value-item.is) c.in_err-table_in.ensures c.loop-value.invariant

pub loop-value-preserved : goal.loop-value-preserved
loop-value-preserved c =
    goes_on (λ (s : Unit {0}). table_in c.args.name.now) (λ s t. s) tt (map (λ t. table_view t.now) c.loop-value.tables.items) (map (λ t. table_view t.now) c.push.new.self.items) _ _ _ _ _
    (one_more view c.args.values.now c.loop-value.value-index _ c.loop-value-test.true c.value-item.is) c.in_ok-table_in.ensures
    (ap (map (λ t. table_view t.now)) c.in_ok-push.ensures.items ∙ map_last (λ t. table_view t.now) c.loop-value.tables.items c.in_ok-table_in.field-0) c.loop-value.invariant

pub returns : goal.returns
returns c = is_done (λ (s : Unit {0}). table_in c.args.name.now) (λ s t. s) tt (map (λ t. table_view t.now) c.loop-value.tables.items) _ _ (none_more view c.args.values.now c.loop-value.value-index c.loop-value-test.false) c.loop-value.invariant
