use Rattle.std.proofs.Common.{◌≡◌, ◌++◌, drop, map}
use Rattle.vote_state.specs.declared.change.Change.TheVariants.{Vote}
use Rattle.vote_state.proofs.ring.add_votes.Given as goal

-- what was added, and what is still to add
abbrev pub invariant-loop-vote : goal.invariant-loop-vote
invariant-loop-vote l = l.changes ++ map (Vote l.ring) (drop l.vote-index l.votes) ≡ l.initial.changes ++ map (Vote l.ring) l.votes
