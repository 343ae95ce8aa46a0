-- Happening by happening.
use Rattle.ring_runs.proofs.Whole.{world_of}
use Rattle.ring_runs.proofs.histories_are_runs.Goals as goal

pub returns : goal.returns
returns c = world_of
