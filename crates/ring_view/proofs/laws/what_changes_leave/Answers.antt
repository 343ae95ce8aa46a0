use Rattle.vote_state.specs.State.{ring_at}
use Rattle.ring_view.proofs.KeptLemmas.{promise_left, trim_left, votes_left}
use Rattle.ring_view.proofs.laws.what_changes_leave.Goals as goal

pub returns-clause-promise : goal.returns-clause-promise
returns-clause-promise c = λ ring changes durable. promise_left ring changes (ring_at durable ring)

pub returns-clause-trim : goal.returns-clause-trim
returns-clause-trim c = λ ring changes durable. trim_left ring changes (ring_at durable ring)

pub returns-clause-votes : goal.returns-clause-votes
returns-clause-votes c = λ ring changes durable from only up. votes_left ring changes (ring_at durable ring) from only up
