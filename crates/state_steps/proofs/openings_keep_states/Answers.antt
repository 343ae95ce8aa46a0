use Rattle.state_steps.proofs.Whole.{opened_at}
use Rattle.state_steps.proofs.openings_keep_states.Goals as goal

pub returns : goal.returns
returns c = opened_at
