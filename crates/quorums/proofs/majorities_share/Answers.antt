-- Two majorities add up to more than n.
use Rattle.std.proofs.Common.{arith}
use Rattle.quorums.proofs.Joining.{lists_meet}
use Rattle.quorums.proofs.Meeting.{majorities_meet}
use Rattle.quorums.proofs.majorities_share.Goals as goal

pub returns-clause-tests : goal.returns-clause-tests
returns-clause-tests c = majorities_meet

pub returns-clause-lists : goal.returns-clause-lists
returns-clause-lists c = λ n xs ys a b p q. lists_meet n xs ys a b (omega arith)
