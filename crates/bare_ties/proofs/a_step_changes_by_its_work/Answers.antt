use Rattle.bare_ties.proofs.Changing.{step_by}
use Rattle.bare_ties.proofs.a_step_changes_by_its_work.Goals as goal

pub returns-clause-journal : goal.returns-clause-journal
returns-clause-journal c config view event = (step_by config view event).journal

pub returns-clause-checkpoints : goal.returns-clause-checkpoints
returns-clause-checkpoints c config view event = (step_by config view event).checkpoints
