use Rattle.faithful_runs.proofs.Faithful.{disks_faithful}
use Rattle.faithful_runs.proofs.every_run_on_disks_is_faithful.Goals as goal

pub returns : goal.returns
returns config = disks_faithful
