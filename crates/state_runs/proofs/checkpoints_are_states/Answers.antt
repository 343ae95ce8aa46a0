use Rattle.state_runs.proofs.Laws.{checkpoint_at, sent_part, gathered_at}
use Rattle.state_runs.proofs.checkpoints_are_states.Goals as goal

pub returns-clause-disks : goal.returns-clause-disks
returns-clause-disks c = checkpoint_at

pub returns-clause-frames : goal.returns-clause-frames
returns-clause-frames c = sent_part

pub returns-clause-gathered : goal.returns-clause-gathered
returns-clause-gathered c = gathered_at
