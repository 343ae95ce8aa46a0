use Rattle.recovery_lines.proofs.Hearing.{checkpoint_told, part_told, answer_taken, gone_taken, part_taken}
use Rattle.recovery_lines.proofs.frames_of_recovery.Goals as goal

pub returns-clause-asked : goal.returns-clause-asked
returns-clause-asked c = λ config fit before a lines ties service s from epoch number asked. checkpoint_told config fit before a lines ties service s.own s.told from epoch number asked

pub returns-clause-asked_part : goal.returns-clause-asked_part
returns-clause-asked_part c = λ config fit before a lines ties service s from epoch number tuple offset tells. part_told config fit before a lines ties service s.own s.told from epoch number tuple offset tells

pub returns-clause-answered : goal.returns-clause-answered
returns-clause-answered c = λ config fit before a lines ties service attempt s stage from epoch number tuple said. answer_taken config fit before a lines ties service s.own s.told attempt stage from epoch number tuple said

pub returns-clause-gone : goal.returns-clause-gone
returns-clause-gone c = λ config fit before a lines ties service attempt s stage from epoch number asked newer other said.
    gone_taken config fit before a lines ties service s.own s.told attempt stage from epoch number asked newer other said

pub returns-clause-part : goal.returns-clause-part
returns-clause-part c = λ config fit before a lines ties service attempt s stage from epoch number tuple offset total bytes.
    part_taken config fit before a lines ties service s.own s.told attempt stage from epoch number tuple offset total bytes
