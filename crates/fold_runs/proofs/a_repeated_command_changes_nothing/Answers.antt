use Rattle.fold_runs.proofs.Repeats.{repeat_applied, repeat_left}
use Rattle.fold_runs.proofs.a_repeated_command_changes_nothing.Goals as goal

pub returns-clause-fold : goal.returns-clause-fold
returns-clause-fold p = repeat_left

pub returns-clause-replica : goal.returns-clause-replica
returns-clause-replica p = repeat_applied
