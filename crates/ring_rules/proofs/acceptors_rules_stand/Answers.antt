use Rattle.ring_rules.proofs.Ruling.{ruled_prepares, ruled_accepts, ruled_fetches, ruled_trimmed}
use Rattle.ring_rules.proofs.acceptors_rules_stand.Goals as goal

pub returns-clause-prepare : goal.returns-clause-prepare
returns-clause-prepare c = λ ring faces a f part s. ruled_prepares ring faces a s.at.seats s.member s.at.all f s.at.local part s.at.ties s.settled

pub returns-clause-accept : goal.returns-clause-accept
returns-clause-accept c = λ ring faces a f part s. ruled_accepts ring faces a s.at.seats s.member s.at.all f s.at.local part s.at.ties s.settled

pub returns-clause-fetch : goal.returns-clause-fetch
returns-clause-fetch c = λ ring faces a f part s. ruled_fetches ring faces a s.at.seats s.member s.at.all f s.at.local part s.at.ties s.settled

pub returns-clause-trimmed : goal.returns-clause-trimmed
returns-clause-trimmed c = λ ring faces a f part s. ruled_trimmed ring faces a s.at.seats s.member s.at.all f s.at.local part s.at.ties s.settled
