use Rattle.std.proofs.Common.{◌≡◌, ◌++◌, drop}
use Rattle.std.specs.List.{flat_map, AllByRecursion}
use Rattle.mrp_types.specs.declared.voted.Voted.{Voted}
use Rattle.command_codec.specs.Parts.{IsSpelled}
use Rattle.frames.specs.Spelling.{vote_bytes, votes_bytes}
use Rattle.frames.proofs.writing.put_votes.Given as goal

-- what was written, and what is left to write
abbrev pub invariant-loop-vote : goal.invariant-loop-vote
invariant-loop-vote l = record {
  all : l.out ++ flat_map vote_bytes (drop l.vote-index l.votes) ≡ l.fn.out ++ votes_bytes l.votes;
  spelled : AllByRecursion (λ (v : Voted). IsSpelled v.value) (drop l.vote-index l.votes);
}
