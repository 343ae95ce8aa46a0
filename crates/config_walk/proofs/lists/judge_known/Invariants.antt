use Rattle.std.proofs.Common.{◌≡◌, drop}
use Rattle.config_walk.specs.Values.{each_known}
use Rattle.config_walk.proofs.lists.judge_known.Given as goal

-- what is left to look through
abbrev pub invariant-loop-number : goal.invariant-loop-number
invariant-loop-number l = each_known l.name l.ids (drop l.number-index l.numbers) ≡ each_known l.name l.ids l.numbers
