use Rattle.state_runs.proofs.Showing.{state_line}
use Rattle.state_runs.proofs.states_are_the_folds.Goals as goal

pub returns : goal.returns
returns c = state_line
