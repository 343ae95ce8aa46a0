-- By the shape of the lines of every run, and by one value.
use Rattle.std.proofs.Common.{subst}
use Rattle.bare_world.specs.Worlds.{World}
use Rattle.ring_runs.proofs.Faithful.{faithful}
use Rattle.ring_runs.proofs.Whole.{world_of}
use Rattle.ring_runs.proofs.learn_lines_are_faithful.Goals as goal
use Rattle.ring_runs.specs.Histories.{at_first}
use Rattle.ring_runs.specs.Lines.{LearnLinesKeepF1}

pub returns : goal.returns
returns c = λ config valid xs may. subst (λ (w : World). LearnLinesKeepF1 config w.lines) (world_of config at_first xs) (faithful config valid xs may)
