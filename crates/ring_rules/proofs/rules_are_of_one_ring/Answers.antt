use Rattle.ring_rules.proofs.Apart.{of_prepares, of_accepts}
use Rattle.ring_rules.proofs.Rules.{of_fetches, of_trimmed, of_promised, of_refused, of_leads, of_starts_on_tick, of_submits, of_resends, of_levels, of_asks_round, of_answers, of_decided, of_chosen}
use Rattle.ring_rules.proofs.rules_are_of_one_ring.Goals as goal

pub returns-clause-prepare : goal.returns-clause-prepare
returns-clause-prepare c = of_prepares

pub returns-clause-accept : goal.returns-clause-accept
returns-clause-accept c = of_accepts

pub returns-clause-fetch : goal.returns-clause-fetch
returns-clause-fetch c = of_fetches

pub returns-clause-trimmed : goal.returns-clause-trimmed
returns-clause-trimmed c = of_trimmed

pub returns-clause-promise : goal.returns-clause-promise
returns-clause-promise c = of_promised

pub returns-clause-refuse : goal.returns-clause-refuse
returns-clause-refuse c = of_refused

pub returns-clause-lead : goal.returns-clause-lead
returns-clause-lead c = of_leads

pub returns-clause-start : goal.returns-clause-start
returns-clause-start c = of_starts_on_tick

pub returns-clause-submit : goal.returns-clause-submit
returns-clause-submit c = of_submits

pub returns-clause-resend : goal.returns-clause-resend
returns-clause-resend c = of_resends

pub returns-clause-level : goal.returns-clause-level
returns-clause-level c = of_levels

pub returns-clause-ask : goal.returns-clause-ask
returns-clause-ask c = of_asks_round

pub returns-clause-answer : goal.returns-clause-answer
returns-clause-answer c = of_answers

pub returns-clause-decide : goal.returns-clause-decide
returns-clause-decide c = of_decided

pub returns-clause-chosen : goal.returns-clause-chosen
returns-clause-chosen c = of_chosen
