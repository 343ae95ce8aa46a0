use Rattle.protocol.specs.Effects.{no_effects}
use Rattle.step_valid.proofs.Words.{valid_none, valid_proposes}
use Rattle.step_valid.proofs.Tables.{valid_promised, valid_refused, valid_leads, valid_starts}
use Rattle.step_valid.proofs.Others.{valid_submits, valid_resends}
use Rattle.step_valid.proofs.coordinators_are_valid.Goals as goal

pub returns-clause-promise : goal.returns-clause-promise
returns-clause-promise c = valid_promised

pub returns-clause-refuse : goal.returns-clause-refuse
returns-clause-refuse c = valid_refused

pub returns-clause-lead : goal.returns-clause-lead
returns-clause-lead c = valid_leads

pub returns-clause-start : goal.returns-clause-start
returns-clause-start c = valid_starts

pub returns-clause-submit : goal.returns-clause-submit
returns-clause-submit c = valid_submits

pub returns-clause-propose : goal.returns-clause-propose
returns-clause-propose c = λ ring numbered link part p. valid_proposes ring numbered (no_effects part) link (valid_none ring numbered part p)

pub returns-clause-resend : goal.returns-clause-resend
returns-clause-resend c = valid_resends
