use Rattle.world.proofs.Keeping.{trace_keeps}
use Rattle.world.proofs.laws.lines_are_faithful.Goals as goal

pub returns : goal.returns
returns c = trace_keeps
