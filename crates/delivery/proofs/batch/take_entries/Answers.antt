use Rattle.std.proofs.Common.{◌∙◌, ap}
use Rattle.replica_state.specs.Held.{Held}
use Rattle.delivery.proofs.Taking.{goes_there}
use Rattle.delivery.proofs.batch.take_entries.Goals as goal

pub loop-index-preserved : goal.loop-index-preserved
loop-index-preserved c = record {
  partition = ap (λ (h : Held). h.partition) c.in_ok-take_entry.ensures.state ∙ c.loop-index.invariant.partition;
  goes = goes_there c.args.at.now c.args.state.now.partition c.args.state.now.replica c.loop-index.state c.take_entry.new.state c.loop-index.index c.index-entries-index.result c.args.entries.now
      c.args.lines.now c.loop-index.lines c.take_entry.new.lines c.args.replies.now c.loop-index.replies c.take_entry.new.replies
      c.loop-index.invariant.partition c.loop-index-test.true c.index-entries-index.is c.in_ok-take_entry.ensures.state c.in_ok-take_entry.ensures.told c.loop-index.invariant.goes;
}
