use Rattle.transcript.proofs.LineLaws.{line_of_was}
use Rattle.transcript.proofs.laws.what_is_read_is_spelled_so.Goals as goal

pub returns-clause-spelled : goal.returns-clause-spelled
returns-clause-spelled c = λ bytes line read. (line_of_was bytes line read).spelled

pub returns-clause-may_be : goal.returns-clause-may_be
returns-clause-may_be c = λ bytes line read. (line_of_was bytes line read).is
