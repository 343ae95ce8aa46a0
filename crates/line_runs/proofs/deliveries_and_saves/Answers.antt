use Rattle.protocol.specs.Lines.{Deliver, Saved}
use Rattle.line_runs.proofs.Laws.{line_holds}
use Rattle.line_runs.proofs.deliveries_and_saves.Goals as goal

pub returns-clause-delivers : goal.returns-clause-delivers
returns-clause-delivers c = λ config hs r before after x ring inst e. line_holds config hs r before after (Deliver x ring inst) e

pub returns-clause-saves : goal.returns-clause-saves
returns-clause-saves c = λ config hs r before after x printed e. line_holds config hs r before after (Saved x printed) e
