-- Bit by bit.
use Rattle.ring_kept.proofs.Masks.{mask_count, mask_more, own_bit}
use Rattle.ring_kept.proofs.masks_are_groups.Goals as goal

pub returns-clause-size : goal.returns-clause-size
returns-clause-size c = mask_count

pub returns-clause-more : goal.returns-clause-more
returns-clause-more c = mask_more

pub returns-clause-alone : goal.returns-clause-alone
returns-clause-alone c = own_bit
