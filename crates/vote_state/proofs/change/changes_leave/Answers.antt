use Rattle.vote_state.proofs.StateLemmas.{formed_taken, promise_taken, trim_taken}
use Rattle.vote_state.proofs.change.changes_leave.Goals as goal

pub returns-clause-formed : goal.returns-clause-formed
returns-clause-formed c = formed_taken

pub returns-clause-promise : goal.returns-clause-promise
returns-clause-promise c = λ cs s ring formed valid. promise_taken cs s ring formed.all valid

pub returns-clause-trim : goal.returns-clause-trim
returns-clause-trim c = λ cs s ring formed valid. trim_taken cs s ring formed.all valid
