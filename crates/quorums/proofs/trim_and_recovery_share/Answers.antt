-- A trim quorum and a recovery quorum add up to more than n.
use Rattle.std.proofs.Common.{arith}
use Rattle.quorums.proofs.Joining.{lists_meet}
use Rattle.quorums.proofs.Meeting.{quorums_meet}
use Rattle.quorums.proofs.trim_and_recovery_share.Goals as goal

pub returns-clause-tests : goal.returns-clause-tests
returns-clause-tests c = quorums_meet

pub returns-clause-lists : goal.returns-clause-lists
returns-clause-lists c = λ n trims recovers xs ys more a b p q. lists_meet n xs ys a b (omega arith)
