use Rattle.recovery_lines.proofs.Saving.{kept_down, kept_next, own_opened}
use Rattle.recovery_lines.proofs.disks_stay.Goals as goal

pub returns-clause-down : goal.returns-clause-down
returns-clause-down c = kept_down

pub returns-clause-next : goal.returns-clause-next
returns-clause-next c = kept_next

pub returns-clause-up : goal.returns-clause-up
returns-clause-up c = own_opened
