use Rattle.state_steps.proofs.Restoring.{restored, beginning}
use Rattle.state_steps.proofs.Hearing.{part_told, answer_taken, gone_taken, part_taken, ticked, recovers_if_trimmed_folded}
use Rattle.state_steps.proofs.recovery_keeps_states.Goals as goal

pub returns-clause-restore : goal.returns-clause-restore
returns-clause-restore c = restored

pub returns-clause-begin : goal.returns-clause-begin
returns-clause-begin c = beginning

pub returns-clause-answer : goal.returns-clause-answer
returns-clause-answer c = answer_taken

pub returns-clause-gone : goal.returns-clause-gone
returns-clause-gone c = gone_taken

pub returns-clause-part : goal.returns-clause-part
returns-clause-part c = part_taken

pub returns-clause-tell : goal.returns-clause-tell
returns-clause-tell c = part_told

pub returns-clause-tick : goal.returns-clause-tick
returns-clause-tick c = ticked

pub returns-clause-trim : goal.returns-clause-trim
returns-clause-trim c = recovers_if_trimmed_folded
