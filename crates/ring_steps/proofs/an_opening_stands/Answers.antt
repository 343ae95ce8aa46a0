use Rattle.ring_steps.proofs.Opened.{opened_stands}
use Rattle.ring_steps.proofs.an_opening_stands.Goals as goal

pub returns : goal.returns
returns c = opened_stands
