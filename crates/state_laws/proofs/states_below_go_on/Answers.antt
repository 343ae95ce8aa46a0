use Rattle.state_laws.proofs.Batches.{state-past}
use Rattle.state_laws.proofs.states_below_go_on.Goals as goal

pub returns : goal.returns
returns c = state-past
