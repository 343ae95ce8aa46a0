-- By induction on the size of the range.
use Rattle.ring_reach.proofs.Reaching.{proposes_range}
use Rattle.ring_reach.proofs.a_range_may_be_proposed.Goals as goal

pub returns : goal.returns
returns g c = proposes_range
