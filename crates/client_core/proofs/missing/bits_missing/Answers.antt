use Rattle.mrp_config.proofs.Masks.{low_ids}
use Rattle.client_core.proofs.MissingLaws.{all_bits_say, missing_is_sum}
use Rattle.client_core.proofs.missing.bits_missing.Goals as goal

pub sum_missing-requires-clause-low : goal.sum_missing-requires-clause-low
sum_missing-requires-clause-low c = rw c.partitions.ensures.tables (low_ids c.args.deployment.now.partitions c.partitions.ensures.valid.partitions.numbers)

pub sum_missing-requires-clause-concerned : goal.sum_missing-requires-clause-concerned
sum_missing-requires-clause-concerned c =
    rw (c.partitions.ensures.tables, c.concerned-concerned.ensures) (all_bits_say c.args.command.now c.args.deployment.now.partitions c.partitions.ensures.valid.partitions.ids)

pub returns : goal.returns
returns c = rw (c.sum_missing.ensures, c.partitions.ensures.tables) (missing_is_sum c.args.command.now c.args.parts.now c.args.deployment.now.partitions)
