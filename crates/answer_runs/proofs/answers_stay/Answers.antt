use Rattle.answer_runs.proofs.Laws.{stays}
use Rattle.answer_runs.proofs.answers_stay.Goals as goal

pub returns : goal.returns
returns c = stays
