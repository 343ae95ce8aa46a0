use Rattle.std.proofs.Common.{◌≡◌, ◌≤◌, drop}
use Rattle.command_codec.specs.Valid.{rises_from}
use Rattle.command_codec.proofs.command.increase.Given as goal

-- what is left to judge
abbrev pub invariant-loop-log : goal.invariant-loop-log
invariant-loop-log l = record {
  rest : rises_from l.least (drop l.log-index l.logs) ≡ rises_from 0 l.logs;
  low : l.least ≤ 64;
}
