use Rattle.disk_runs.proofs.Whole.{happening_goes}
use Rattle.disk_runs.proofs.Works.{all_work}
use Rattle.disk_runs.proofs.every_happening_is_a_run.Goals as goal

pub returns : goal.returns
returns c = λ config valid past ran w ties x may fits. happening_goes config valid (all_work config valid) x past ran w ties may fits
