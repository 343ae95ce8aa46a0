use Rattle.std.proofs.Common.{arith}
use Rattle.mrp_config.proofs.Masks.{mask_fits, low_ids}
use Rattle.mrp_config.proofs.routing.mask_concerned.Goals as goal

pub loop-p-init : goal.loop-p-init
loop-p-init c = record {
  all = omega arith;
  fits = let fits = mask_fits 0 c.args.command.now c.args.partitions.now (omega arith) c.requires.rise c.requires.low in omega (arith, fits);
  low = low_ids c.args.partitions.now c.requires.low;
}
