use Rattle.answer_runs.proofs.Laws.{one_answer}
use Rattle.answer_runs.proofs.two_answers_are_one.Goals as goal

pub returns : goal.returns
returns c = one_answer
