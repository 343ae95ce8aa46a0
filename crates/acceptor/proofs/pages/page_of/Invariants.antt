use Rattle.std.proofs.Common.{◌≡◌, ◌++◌, drop, length}
use Rattle.frames.specs.Spelling.{vote_size}
use Rattle.plain_model.specs.Pages.{front_within}
use Rattle.protocol.specs.Acceptor.{votes_page}
use Rattle.acceptor.proofs.pages.page_of.Given as goal

-- the votes so far, and those that still have room
abbrev pub invariant-loop-vote : goal.invariant-loop-vote
invariant-loop-vote l = record {
  front : l.page ++ front_within vote_size l.room (drop l.vote-index l.votes) ≡ votes_page l.votes;
  taken : length l.page ≡ l.vote-index;
}
