use Rattle.ring_rules.proofs.Ruling.{ruled_promised, ruled_refused, ruled_leads, ruled_starts, ruled_submits, ruled_resends, ruled_levels}
use Rattle.ring_rules.proofs.coordinators_rules_stand.Goals as goal

pub returns-clause-promise : goal.returns-clause-promise
returns-clause-promise c = λ ring faces a f part s. ruled_promised ring faces a s.at.seats s.member s.at.all f s.at.local part s.at.ties s.settled

pub returns-clause-refuse : goal.returns-clause-refuse
returns-clause-refuse c = λ ring faces a f part s. ruled_refused ring faces a s.at.seats s.member s.at.all f s.at.local part s.at.ties s.settled

pub returns-clause-lead : goal.returns-clause-lead
returns-clause-lead c = λ ring faces a f part s. ruled_leads ring faces a s.at.seats s.member s.at.all f s.at.local part s.at.ties s.settled

pub returns-clause-start : goal.returns-clause-start
returns-clause-start c = λ ring faces a f part s. ruled_starts ring faces a s.at.seats s.member s.at.all f s.at.local part s.at.ties s.settled

pub returns-clause-submit : goal.returns-clause-submit
returns-clause-submit c = λ ring faces a f part s. ruled_submits ring faces a s.at.seats s.member s.at.all f s.at.local part s.at.ties s.settled

pub returns-clause-resend : goal.returns-clause-resend
returns-clause-resend c = λ ring faces a f part s. ruled_resends ring faces a s.at.seats s.member s.at.all f s.at.local part s.at.ties s.settled

pub returns-clause-level : goal.returns-clause-level
returns-clause-level c = λ ring faces a f part s. ruled_levels ring faces a s.at.seats s.member s.at.all f s.at.local part s.at.ties s.settled
