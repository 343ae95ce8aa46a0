use Rattle.merge.proofs.Stepping.{delivers_batch}
use Rattle.merge.proofs.laws.the_step_delivers.Goals as goal

pub returns : goal.returns
returns c = delivers_batch
