use Rattle.std.proofs.Common.{◌≡◌, ◌++◌, drop, take}
use Rattle.plain_model.specs.Replicas.{ends_of, with_value}
use Rattle.dlog_service.proofs.logs.append_each.Given as goal

-- the logs so far have the value, the others are as they were
abbrev pub invariant-loop-log : goal.invariant-loop-log
invariant-loop-log l = record {
  logs : l.log-items ≡ take l.log-index (with_value l.value l.named l.fn.logs.items) ++ drop l.log-index l.fn.logs.items;
  positions : l.positions ++ ends_of l.named (drop l.log-index l.fn.logs.items) ≡ ends_of l.named l.fn.logs.items;
}
