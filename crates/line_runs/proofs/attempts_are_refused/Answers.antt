use Rattle.protocol.specs.Lines.{Refuse}
use Rattle.line_runs.proofs.Laws.{line_holds}
use Rattle.line_runs.proofs.attempts_are_refused.Goals as goal

pub returns : goal.returns
returns c = λ config hs r before after x epoch attempt answered needed e. line_holds config hs r before after (Refuse x epoch attempt answered needed) e
