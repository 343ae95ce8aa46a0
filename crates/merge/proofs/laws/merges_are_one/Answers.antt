use Rattle.merge.proofs.Stepping.{one_merge}
use Rattle.merge.proofs.laws.merges_are_one.Goals as goal

pub returns : goal.returns
returns c = one_merge
