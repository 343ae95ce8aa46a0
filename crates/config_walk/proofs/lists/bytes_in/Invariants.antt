use Rattle.std.proofs.Common.{◌≡◌, length, drop}
use Rattle.config_walk.specs.Values.{each_in}
use Rattle.config_walk.proofs.Chains.{before}
use Rattle.config_walk.proofs.lists.bytes_in.Given as goal

-- what was read so far and what is still read are all of it
abbrev pub invariant-loop-integer : goal.invariant-loop-integer
invariant-loop-integer l =
    (before l.numbers.items (each_in l.name l.greatest (drop l.integer-index l.integers)) ≡ each_in l.name l.greatest l.integers)
    × (length l.numbers.items ≡ l.integer-index)
