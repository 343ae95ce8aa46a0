use Rattle.state_runs.proofs.Laws.{ready_at, replicas_alike}
use Rattle.state_runs.proofs.replicas_are_the_folds.Goals as goal

pub returns-clause-state : goal.returns-clause-state
returns-clause-state c = ready_at

pub returns-clause-alike : goal.returns-clause-alike
returns-clause-alike c = replicas_alike
