use Rattle.merge.proofs.Stepping.{passes_skips}
use Rattle.merge.proofs.laws.the_step_passes_skips.Goals as goal

pub returns : goal.returns
returns c = passes_skips
