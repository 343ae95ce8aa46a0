use Rattle.answer_runs.proofs.Laws.{answer_line}
use Rattle.answer_runs.proofs.answers_are_the_folds.Goals as goal

pub returns : goal.returns
returns c = λ config hs r before after client seq bytes e. answer_line config hs r before after client seq bytes e
