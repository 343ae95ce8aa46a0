use Rattle.vote_state.proofs.MaximalLemmas.{are_maximal}
use Rattle.vote_state.proofs.OneList.{only_ranges, votes_again}
use Rattle.vote_state.proofs.voted.ranges_stand_for_votes.Goals as goal

pub returns-clause-maximal : goal.returns-clause-maximal
returns-clause-maximal c = are_maximal

pub returns-clause-only : goal.returns-clause-only
returns-clause-only c = only_ranges

pub returns-clause-again : goal.returns-clause-again
returns-clause-again c = votes_again
