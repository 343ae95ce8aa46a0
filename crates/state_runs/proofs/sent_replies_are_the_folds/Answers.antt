use Rattle.state_runs.proofs.Laws.{sent_reply}
use Rattle.state_runs.proofs.sent_replies_are_the_folds.Goals as goal

pub returns : goal.returns
returns c = sent_reply
