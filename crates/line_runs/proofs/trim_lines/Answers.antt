use Rattle.protocol.specs.Lines.{Trim}
use Rattle.line_runs.proofs.Laws.{line_holds}
use Rattle.line_runs.proofs.trim_lines.Goals as goal

pub returns : goal.returns
returns c = λ config hs r before after x ring inst e. line_holds config hs r before after (Trim x ring inst) e
