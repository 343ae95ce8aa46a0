use Rattle.std.proofs.Common.{◌≡◌, map}
use Rattle.toml.specs.View.{table_view}
use Rattle.config_walk.specs.Values.{all_known}
use Rattle.config_walk.proofs.Known.{each_known_name}
use Rattle.config_walk.proofs.names.judge_names.Given as goal

-- what is left to look through
abbrev pub invariant-loop-key : goal.invariant-loop-key
invariant-loop-key l = each_known_name l.prefix (map (λ s. s.now) l.names) l.key-iterator ≡ all_known l.prefix (map (λ s. s.now) l.names) (table_view l.table)
