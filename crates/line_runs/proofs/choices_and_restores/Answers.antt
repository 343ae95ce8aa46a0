use Rattle.protocol.specs.Lines.{Chose, Restore}
use Rattle.line_runs.proofs.Laws.{line_holds}
use Rattle.line_runs.proofs.choices_and_restores.Goals as goal

pub returns-clause-chooses : goal.returns-clause-chooses
returns-clause-chooses c = λ config hs r before after x epoch attempt printed from e. line_holds config hs r before after (Chose x epoch attempt printed from) e

pub returns-clause-restores : goal.returns-clause-restores
returns-clause-restores c = λ config hs r before after x printed e. line_holds config hs r before after (Restore x printed) e
