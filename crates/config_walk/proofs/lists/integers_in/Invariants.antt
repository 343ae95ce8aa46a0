use Rattle.std.proofs.Common.{◌≡◌, drop, map}
use Rattle.toml.specs.View.{view}
use Rattle.config_walk.specs.Values.{integers_in}
use Rattle.config_walk.proofs.Chains.{before}
use Rattle.config_walk.proofs.lists.integers_in.Given as goal

-- what was read so far and what is still read are all of it
abbrev pub invariant-loop-value : goal.invariant-loop-value
invariant-loop-value l =
    before l.integers.items (integers_in l.name (map view (drop l.value-index l.values))) ≡ integers_in l.name (map view l.values)
