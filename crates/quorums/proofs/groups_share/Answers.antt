-- The laws of two groups, as tests and as lists.
use Rattle.quorums.proofs.Joining.{lists_meet}
use Rattle.quorums.proofs.Meeting.{groups_meet}
use Rattle.quorums.proofs.groups_share.Goals as goal

pub returns-clause-tests : goal.returns-clause-tests
returns-clause-tests c = groups_meet

pub returns-clause-lists : goal.returns-clause-lists
returns-clause-lists c = lists_meet
