-- By the votes at each instance.
use Rattle.ring_kept.proofs.Keeping.{kept_voted, kept_held}
use Rattle.ring_kept.proofs.a_vote_is_votes_over_its_range.Goals as goal

pub returns-clause-change : goal.returns-clause-change
returns-clause-change c = kept_voted

pub returns-clause-again : goal.returns-clause-again
returns-clause-again c = kept_held
