use Rattle.fold_runs.proofs.Disks.{disk_folds, disk_images}
use Rattle.fold_runs.proofs.runs_on_disks_are_folds.Goals as goal

pub returns-clause-lines : goal.returns-clause-lines
returns-clause-lines config = disk_folds

pub returns-clause-images : goal.returns-clause-images
returns-clause-images config = disk_images
