use Rattle.std.proofs.Common.{◌≡◌, ◌++◌, drop}
use Rattle.std.specs.List.{flat_map}
use Rattle.verdicts.proofs.shown.put_all.Given as goal

-- what was put and what is left are the whole
abbrev pub invariant-loop-item : goal.invariant-loop-item
invariant-loop-item g l = l.out ++ flat_map g.T.Shown.text (drop l.item-index l.items) ≡ l.fn.out ++ flat_map g.T.Shown.text l.items
