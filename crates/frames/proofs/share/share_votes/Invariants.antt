use Rattle.std.proofs.Common.{◌≡◌, ◌++◌, drop}
use Rattle.frames.proofs.share.share_votes.Given as goal

-- the votes so far, and those still to share
abbrev pub invariant-loop-vote : goal.invariant-loop-vote
invariant-loop-vote l = l.copy ++ drop l.vote-index l.votes ≡ l.votes
