use Rattle.dlog_service.proofs.ReadLaws.{next_read, next_first}
use Rattle.dlog_service.proofs.reading.read_logs.Goals as goal

pub loop-id-preserved : goal.loop-id-preserved
loop-id-preserved c = record {
  all = next_read c.args.ids.now c.loop-id.id-index c.loop-id.logs.items c.push.new.self.items _ c.in_ok-read_log.field-0 c.loop-id.fields _ _ c.loop-id-test.true c.in_ok-read_log.ensures.exact c.in_ok-push.ensures.items
      c.loop-id.invariant.all;
  logs = next_first c.args.ids.now c.loop-id.id-index c.loop-id.logs.items c.push.new.self.items _ c.in_ok-read_log.field-0 c.loop-id-test.true c.loop-id.invariant.logs c.in_ok-read_log.ensures.number c.in_ok-read_log.ensures.log
      c.in_ok-push.ensures.items;
}
