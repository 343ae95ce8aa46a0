use Rattle.std.proofs.Common.{◌≡◌, ◌++◌, take, drop}
use Rattle.config_walk.specs.Values.{each_once}
use Rattle.config_walk.proofs.lists.judge_once.Given as goal

-- what is left to look through
abbrev pub invariant-loop-index : goal.invariant-loop-index
invariant-loop-index l = each_once l.name (l.taken ++ take l.index l.numbers) (drop l.index l.numbers) ≡ each_once l.name l.taken l.numbers
