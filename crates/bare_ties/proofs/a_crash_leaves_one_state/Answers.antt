use Rattle.bare_ties.proofs.Stepping.{crashed}
use Rattle.bare_ties.proofs.a_crash_leaves_one_state.Goals as goal

pub returns : goal.returns
returns c = crashed
