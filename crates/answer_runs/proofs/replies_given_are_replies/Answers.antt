use Rattle.answer_runs.proofs.Giving.{given_replies}
use Rattle.answer_runs.proofs.replies_given_are_replies.Goals as goal

pub returns : goal.returns
returns c = λ config known p place batch below front rest e reply valid has subscribes holds known_below there replied. given_replies config known p place batch below front rest e reply valid has subscribes holds known_below there replied
