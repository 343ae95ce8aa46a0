use Rattle.mrp_types.specs.declared.voted.Decided.{Decided}
use Rattle.command_codec.specs.Parts.{IsSpelled}
use Rattle.frames.specs.Spelling.{decided_bytes}
use Rattle.frames.proofs.Walks.{counted, all_on}
use Rattle.frames.proofs.sizes.ranges_size.Goals as goal

pub loop-decided-preserved : goal.loop-decided-preserved
loop-decided-preserved c = record {
  all = counted decided_bytes c.args.ranges.now c.loop-decided.decided-index c.decided-item.result c.loop-decided.size c.decided_size-size.result c.loop-decided-test.true c.decided-item.is
      c.decided_size-size.ensures.spelled c.loop-decided.invariant.all;
  spelled = all_on (λ (d : Decided). IsSpelled d.value) c.args.ranges.now c.loop-decided.decided-index c.decided-item.result c.loop-decided-test.true c.decided-item.is c.loop-decided.invariant.spelled;
}
