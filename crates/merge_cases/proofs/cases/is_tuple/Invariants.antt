use Rattle.std.proofs.Common.{drop}
use Rattle.merge_cases.specs.Cases.{Follows}
use Rattle.merge_cases.proofs.cases.is_tuple.Given as goal

-- what may follow makes the whole
abbrev pub invariant-loop-i : goal.invariant-loop-i
invariant-loop-i l = Follows l.least (drop l.i l.pairs) l.pairs
