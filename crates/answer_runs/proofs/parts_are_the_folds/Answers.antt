use Rattle.answer_runs.proofs.Laws.{parts_held}
use Rattle.answer_runs.proofs.parts_are_the_folds.Goals as goal

pub returns : goal.returns
returns c = λ config hs r client a e. parts_held config hs r client a e
