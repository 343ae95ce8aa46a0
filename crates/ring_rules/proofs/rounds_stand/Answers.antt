use Rattle.ring_rules.proofs.Ruling.{ruled_asks_round, ruled_answers}
use Rattle.ring_rules.proofs.rounds_stand.Goals as goal

pub returns-clause-ask : goal.returns-clause-ask
returns-clause-ask c = λ ring faces a f part s. ruled_asks_round ring faces a s.at.seats s.member s.at.all f s.at.local part s.at.ties s.settled

pub returns-clause-answer : goal.returns-clause-answer
returns-clause-answer c = λ ring faces a f part s. ruled_answers ring faces a s.at.seats s.member s.at.all f s.at.local part s.at.ties s.settled
