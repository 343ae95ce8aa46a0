use Rattle.world.proofs.Keeping.{ready_is_faithful}
use Rattle.world.proofs.laws.ready_lines_are_faithful.Goals as goal

pub returns : goal.returns
returns c = ready_is_faithful
