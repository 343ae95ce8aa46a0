use Rattle.ring_reach.proofs.Silence.{silently}
use Rattle.ring_reach.proofs.a_stopped_step_tells_nothing.Goals as goal

pub returns : goal.returns
returns c row = silently
