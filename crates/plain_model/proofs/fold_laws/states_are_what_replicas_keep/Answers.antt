use Rattle.plain_model.proofs.Below.{state-below}
use Rattle.plain_model.proofs.fold_laws.states_are_what_replicas_keep.Goals as goal

pub returns : goal.returns
returns c = state-below
