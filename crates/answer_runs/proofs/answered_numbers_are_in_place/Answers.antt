use Rattle.answer_runs.proofs.Laws.{in_place}
use Rattle.answer_runs.proofs.answered_numbers_are_in_place.Goals as goal

pub returns : goal.returns
returns c = λ config hs r client seq bytes has. in_place config hs r client seq bytes has
