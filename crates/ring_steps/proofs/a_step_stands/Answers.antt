use Rattle.ring_steps.proofs.Ending.{step_stands}
use Rattle.ring_steps.proofs.a_step_stands.Goals as goal

pub returns : goal.returns
returns c = step_stands
