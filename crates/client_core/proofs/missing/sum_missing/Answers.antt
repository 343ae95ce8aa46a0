use Rattle.std.proofs.Common.{arith}
use Rattle.client_core.proofs.MissingLaws.{missing_at_most}
use Rattle.client_core.proofs.missing.sum_missing.Goals as goal

pub loop-p-init : goal.loop-p-init
loop-p-init c = record {
  all = omega arith;
  fits = let most = missing_at_most c.args.command.now c.args.parts.now c.args.partitions.now in omega (arith, most, c.requires.few);
  low = c.requires.low;
  concerned = c.requires.concerned;
}
