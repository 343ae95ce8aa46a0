use Rattle.merge.proofs.Stepping.{ends_there}
use Rattle.merge.proofs.laws.the_step_waits.Goals as goal

pub returns : goal.returns
returns c = ends_there
