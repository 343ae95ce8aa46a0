-- By whether it is the own face.
use Rattle.ring_reach.proofs.Reaching.{proposed_seen, promised_seen}
use Rattle.ring_reach.proofs.what_is_seen_is_known.Goals as goal

pub returns-clause-proposed : goal.returns-clause-proposed
returns-clause-proposed g c = proposed_seen

pub returns-clause-promised : goal.returns-clause-promised
returns-clause-promised g c = promised_seen
