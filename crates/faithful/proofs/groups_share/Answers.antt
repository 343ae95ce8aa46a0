use Rattle.faithful.proofs.Quorum.{share, different_count}
use Rattle.faithful.proofs.groups_share.Goals as goal

pub returns-clause-share : goal.returns-clause-share
returns-clause-share c = share

pub returns-clause-counted : goal.returns-clause-counted
returns-clause-counted c = λ nodes test answers different all. different_count nodes test answers different all
