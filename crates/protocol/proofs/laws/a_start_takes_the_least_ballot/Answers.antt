use Rattle.protocol.proofs.BallotLemmas.{is_least, is_least_owned}
use Rattle.protocol.proofs.laws.a_start_takes_the_least_ballot.Goals as goal

pub returns-clause-rest : goal.returns-clause-rest
returns-clause-rest c = is_least

pub returns-clause-owned : goal.returns-clause-owned
returns-clause-owned c = is_least_owned
