use Rattle.std.proofs.Common.{arith}
use Rattle.dlog_service.proofs.LogsLaws.{room_next, next_log, next_positions}
use Rattle.dlog_service.proofs.logs.append_each.Goals as goal

pub append_one-requires-clause-room : goal.append_one-requires-clause-room
append_one-requires-clause-room c =
    room_next c.args.value.now c.args.named.now c.args.logs.now.items c.loop-log.log-items c.loop-log.log-index c.log-item.result c.loop-log.invariant.logs (omega arith) c.requires.room

pub loop-log-preserved : goal.loop-log-preserved
loop-log-preserved c = record {
  logs =
      next_log c.args.value.now c.args.named.now c.args.logs.now.items c.loop-log.log-items c.loop-log.log-index c.log-item.result _ c.loop-log.invariant.logs (omega arith) c.in_ok-append_one.ensures.log;
  positions =
      next_positions c.args.value.now c.args.named.now c.args.logs.now.items c.loop-log.log-items c.loop-log.log-index c.log-item.result _ _ _ c.loop-log.invariant.logs (omega arith)
      c.in_ok-append_one.ensures.positions c.loop-log.invariant.positions;
}
