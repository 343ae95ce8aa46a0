-- By computation.
use Rattle.bare_rows.proofs.Happens.{may_run, printed}
use Rattle.bare_rows.proofs.the_run_may_happen.Goals as goal

pub returns-clause-may : goal.returns-clause-may
returns-clause-may c = may_run

pub returns-clause-prints : goal.returns-clause-prints
returns-clause-prints c = printed
