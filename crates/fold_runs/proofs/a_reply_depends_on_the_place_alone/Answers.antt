use Rattle.fold_runs.proofs.Placed.{place_alone}
use Rattle.fold_runs.proofs.a_reply_depends_on_the_place_alone.Goals as goal

pub returns : goal.returns
returns c = place_alone
