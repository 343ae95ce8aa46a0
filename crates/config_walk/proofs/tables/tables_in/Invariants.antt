use Rattle.std.proofs.Common.{◌≡◌, drop, map}
use Rattle.toml.specs.View.{view, table_view}
use Rattle.config_walk.specs.Values.{tables_in}
use Rattle.config_walk.proofs.Chains.{before}
use Rattle.config_walk.proofs.tables.tables_in.Given as goal

-- what was found so far and what is still looked at are all of it
abbrev pub invariant-loop-value : goal.invariant-loop-value
invariant-loop-value l =
    before (map (λ t. table_view t.now) l.tables.items) (tables_in l.name (map view (drop l.value-index l.values))) ≡ tables_in l.name (map view l.values)
