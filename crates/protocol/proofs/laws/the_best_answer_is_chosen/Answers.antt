use Rattle.protocol.proofs.AnswerLemmas.{best_is}
use Rattle.protocol.proofs.laws.the_best_answer_is_chosen.Goals as goal

pub returns : goal.returns
returns c = best_is
