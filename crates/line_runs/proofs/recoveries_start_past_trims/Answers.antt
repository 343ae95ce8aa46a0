use Rattle.line_runs.proofs.Laws.{recovery_past}
use Rattle.line_runs.proofs.Since.{since_disks, since_frames}
use Rattle.line_runs.proofs.recoveries_start_past_trims.Goals as goal

pub returns-clause-lines : goal.returns-clause-lines
returns-clause-lines c = recovery_past

pub returns-clause-disks : goal.returns-clause-disks
returns-clause-disks c = since_disks

pub returns-clause-frames : goal.returns-clause-frames
returns-clause-frames c = since_frames
