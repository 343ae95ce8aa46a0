use Rattle.std.proofs.Common.{◌≡◌, ◌+◌, drop}
use Rattle.dlog_service.specs.Logs.{values_size}
use Rattle.dlog_service.proofs.log.drop_front.Given as goal

-- what was dropped, and how many bytes that was
abbrev pub invariant-loop-turn : goal.invariant-loop-turn
invariant-loop-turn l = record {
  left : l.values.items ≡ drop l._turn l.initial.values.items;
  freed : values_size l.initial.values.items ≡ values_size l.values.items + l.freed;
}
