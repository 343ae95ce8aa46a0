use Rattle.bare_world.proofs.Onward.{run_both, may_both}
use Rattle.bare_world.proofs.runs_go_on.Goals as goal

pub returns-clause-world : goal.returns-clause-world
returns-clause-world c = run_both

pub returns-clause-may : goal.returns-clause-may
returns-clause-may c = may_both
