use Rattle.std.proofs.Common.{◌≡◌, drop}
use Rattle.config_walk.specs.Values.{each_rises}
use Rattle.config_walk.proofs.lists.judge_rising.Given as goal

-- what is left to look through
abbrev pub invariant-loop-number : goal.invariant-loop-number
invariant-loop-number l = each_rises l.name l.least (drop l.number-index l.numbers) ≡ each_rises l.name 0 l.numbers
