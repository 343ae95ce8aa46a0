use Rattle.std.proofs.Common.{drop}
use Rattle.frames.proofs.Walks.{VotesSoFar}
use Rattle.frames.proofs.valid.follow_as_votes.Given as goal

-- what is left to judge
abbrev pub invariant-loop-vote : goal.invariant-loop-vote
invariant-loop-vote l = VotesSoFar l.before (drop l.vote-index l.votes) l.votes
