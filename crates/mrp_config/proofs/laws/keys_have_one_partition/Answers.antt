-- The ranges of a valid deployment stand end to end from the empty key on.
use Rattle.mrp_config.proofs.Keys.{each_key_has_one}
use Rattle.mrp_config.proofs.laws.keys_have_one_partition.Goals as goal

pub returns : goal.returns
returns c = λ config h key. each_key_has_one key config.partitions h.partitions.few.0 h.partitions.ranges
