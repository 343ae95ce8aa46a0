use Rattle.protocol.specs.Lines.{Begin}
use Rattle.line_runs.proofs.Laws.{line_holds}
use Rattle.line_runs.proofs.attempts_begin.Goals as goal

pub returns : goal.returns
returns c = λ config hs r before after x epoch attempt printed e. line_holds config hs r before after (Begin x epoch attempt printed) e
