use Rattle.vote_journal.proofs.Recording.{records_of_log}
use Rattle.vote_journal.proofs.laws.what_stands_is_the_state.Goals as goal

pub returns : goal.returns
returns c = λ j areas stands. (stands.records, records_of_log j.log stands.records areas stands.holds, stands.state)
