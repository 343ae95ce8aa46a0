-- The ids of a valid deployment's partitions increase.
use Rattle.config_laws.proofs.Bits.{bits_of_sum}
use Rattle.config_laws.proofs.laws.bits_name_what_is_concerned.Goals as goal

pub returns : goal.returns
returns c = λ config h command id. bits_of_sum command config.partitions id h.partitions.ids
