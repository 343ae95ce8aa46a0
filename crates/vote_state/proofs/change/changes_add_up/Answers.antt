use Rattle.vote_state.proofs.StateLemmas.{taken-append, promise_after-append, trim_after-append}
use Rattle.vote_state.proofs.change.changes_add_up.Goals as goal

pub returns-clause-taken : goal.returns-clause-taken
returns-clause-taken c = taken-append

pub returns-clause-promise : goal.returns-clause-promise
returns-clause-promise c = promise_after-append

pub returns-clause-trim : goal.returns-clause-trim
returns-clause-trim c = trim_after-append
