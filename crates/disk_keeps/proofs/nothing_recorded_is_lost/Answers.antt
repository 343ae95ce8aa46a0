use Rattle.disk_keeps.proofs.Keeping.{nothing_lost}
use Rattle.disk_keeps.proofs.nothing_recorded_is_lost.Goals as goal

pub returns : goal.returns
returns c = nothing_lost
