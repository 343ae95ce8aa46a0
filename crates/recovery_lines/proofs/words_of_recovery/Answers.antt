use Rattle.recovery_lines.proofs.Beginning.{beginning}
use Rattle.recovery_lines.proofs.Merging.{merged_all}
use Rattle.recovery_lines.proofs.Ticking.{recovers_if_trimmed_lines, recovery_lines}
use Rattle.recovery_lines.proofs.words_of_recovery.Goals as goal

pub returns-clause-merges : goal.returns-clause-merges
returns-clause-merges c = merged_all

pub returns-clause-begins : goal.returns-clause-begins
returns-clause-begins c = λ config fit before a lines ties service own. beginning config fit before (merged_all config fit before) service a lines ties own

pub returns-clause-recovers_if_trimmed : goal.returns-clause-recovers_if_trimmed
returns-clause-recovers_if_trimmed c = recovers_if_trimmed_lines

pub returns-clause-ticks : goal.returns-clause-ticks
returns-clause-ticks c = recovery_lines
