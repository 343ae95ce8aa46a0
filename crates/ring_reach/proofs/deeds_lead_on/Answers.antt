-- By induction on the deeds.
use Rattle.ring_reach.proofs.Reaching.{Grows-reach, Local-reach, reach_both}
use Rattle.ring_reach.proofs.deeds_lead_on.Goals as goal

pub returns-clause-grow : goal.returns-clause-grow
returns-clause-grow g c = Grows-reach

pub returns-clause-keep : goal.returns-clause-keep
returns-clause-keep g c = Local-reach

pub returns-clause-follow : goal.returns-clause-follow
returns-clause-follow g c = reach_both
