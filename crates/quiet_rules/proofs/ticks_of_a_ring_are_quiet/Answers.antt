use Rattle.quiet_rules.proofs.Handlers.{quiet_leads, quiet_starts_on_tick, quiet_resends, quiet_levels}
use Rattle.quiet_rules.proofs.Rounds.{quiet_asks}
use Rattle.quiet_rules.proofs.Words.{quiet_proposes}
use Rattle.quiet_rules.proofs.ticks_of_a_ring_are_quiet.Goals as goal

pub returns-clause-lead : goal.returns-clause-lead
returns-clause-lead c = quiet_leads

pub returns-clause-start : goal.returns-clause-start
returns-clause-start c = quiet_starts_on_tick

pub returns-clause-resend : goal.returns-clause-resend
returns-clause-resend c = quiet_resends

pub returns-clause-ask : goal.returns-clause-ask
returns-clause-ask c = quiet_asks

pub returns-clause-level : goal.returns-clause-level
returns-clause-level c = quiet_levels

pub returns-clause-propose : goal.returns-clause-propose
returns-clause-propose c = quiet_proposes
