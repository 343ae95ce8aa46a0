use Rattle.state_runs.proofs.Runs.{run_states}
use Rattle.state_runs.proofs.every_run_keeps_states.Goals as goal

pub returns : goal.returns
returns c = run_states
