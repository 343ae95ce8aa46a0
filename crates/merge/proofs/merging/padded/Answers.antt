use Rattle.std.proofs.Common.{arith, rules, add-one}
use Rattle.merge.proofs.Settled.{copied_more}
use Rattle.merge.proofs.merging.padded.Goals as goal

pub loop-i-preserved : goal.loop-i-preserved
loop-i-preserved c = record {
  taken = rw add-one (copied_more c.loop-i.kept c.args.pairs.now c.loop-i.i (omega arith) (omega arith) c.loop-i.invariant.taken);
  many = search rules;
}
