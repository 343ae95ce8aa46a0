use Rattle.quiet_rules.proofs.Handlers.{quiet_prepares, quiet_promised, quiet_refused, quiet_accepts, quiet_decided, quiet_fetches, quiet_chosen, quiet_trimmed, quiet_submits}
use Rattle.quiet_rules.proofs.Rounds.{quiet_answers}
use Rattle.quiet_rules.proofs.frames_of_a_ring_are_quiet.Goals as goal

pub returns-clause-prepare : goal.returns-clause-prepare
returns-clause-prepare c = quiet_prepares

pub returns-clause-promise : goal.returns-clause-promise
returns-clause-promise c = quiet_promised

pub returns-clause-refuse : goal.returns-clause-refuse
returns-clause-refuse c = quiet_refused

pub returns-clause-accept : goal.returns-clause-accept
returns-clause-accept c = quiet_accepts

pub returns-clause-decide : goal.returns-clause-decide
returns-clause-decide c = quiet_decided

pub returns-clause-fetch : goal.returns-clause-fetch
returns-clause-fetch c = quiet_fetches

pub returns-clause-chosen : goal.returns-clause-chosen
returns-clause-chosen c = quiet_chosen

pub returns-clause-trimmed : goal.returns-clause-trimmed
returns-clause-trimmed c = quiet_trimmed

pub returns-clause-submit : goal.returns-clause-submit
returns-clause-submit c = quiet_submits

pub returns-clause-safe : goal.returns-clause-safe
returns-clause-safe c = quiet_answers
