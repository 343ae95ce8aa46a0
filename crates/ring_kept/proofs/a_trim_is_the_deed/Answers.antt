-- By the votes at each instance.
use Rattle.ring_kept.proofs.Keeping.{kept_trimmed}
use Rattle.ring_kept.proofs.a_trim_is_the_deed.Goals as goal

pub returns : goal.returns
returns c = kept_trimmed
