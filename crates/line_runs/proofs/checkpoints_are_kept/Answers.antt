use Rattle.line_runs.proofs.Laws.{told_kept, run_lines}
use Rattle.line_runs.proofs.Telling.{named_known, all_reached}
use Rattle.line_runs.proofs.checkpoints_are_kept.Goals as goal

pub returns-clause-disks : goal.returns-clause-disks
returns-clause-disks c = told_kept

pub returns-clause-told : goal.returns-clause-told
returns-clause-told c = λ config hs r x p k replica valid told. (run_lines config hs r).known x p k replica valid told

pub returns-clause-frames : goal.returns-clause-frames
returns-clause-frames c = named_known

pub returns-clause-reached : goal.returns-clause-reached
returns-clause-reached c = all_reached
