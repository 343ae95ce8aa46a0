use Rattle.std.proofs.Common.{◌≡◌, ◌+◌, length, drop}
use Rattle.std.specs.List.{flat_map, AllByRecursion}
use Rattle.mrp_types.specs.declared.voted.Voted.{Voted}
use Rattle.command_codec.specs.Parts.{IsSpelled}
use Rattle.frames.specs.Spelling.{vote_bytes}
use Rattle.frames.proofs.sizes.votes_size.Given as goal

-- what was counted, and what is left to count
abbrev pub invariant-loop-vote : goal.invariant-loop-vote
invariant-loop-vote l = record {
  all : l.size + length (flat_map vote_bytes (drop l.vote-index l.votes)) ≡ length (flat_map vote_bytes l.votes);
  spelled : AllByRecursion (λ (v : Voted). IsSpelled v.value) (drop l.vote-index l.votes);
}
