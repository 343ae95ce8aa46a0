use Rattle.bare_ties.proofs.Stepping.{a_step}
use Rattle.bare_ties.proofs.a_step_ends.Goals as goal

pub returns : goal.returns
returns c = a_step
