use Rattle.std.proofs.Common.{◌≡◌, drop}
use Rattle.mrp_types.specs.Moves.{entry_at}
use Rattle.mrp_types.proofs.tuple.entry_of.Given as goal

-- what is left has the entry
abbrev pub invariant-loop-pair : goal.invariant-loop-pair
invariant-loop-pair l = entry_at l.ring (drop l.pair-index l.pairs) ≡ entry_at l.ring l.pairs
