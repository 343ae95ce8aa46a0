use Rattle.mrp_types.specs.declared.voted.Voted.{Voted}
use Rattle.command_codec.specs.Parts.{IsSpelled}
use Rattle.frames.specs.Spelling.{vote_bytes}
use Rattle.frames.proofs.Walks.{counted, all_on}
use Rattle.frames.proofs.sizes.votes_size.Goals as goal

pub loop-vote-preserved : goal.loop-vote-preserved
loop-vote-preserved c = record {
  all = counted vote_bytes c.args.votes.now c.loop-vote.vote-index c.vote-item.result c.loop-vote.size c.vote_size-size.result c.loop-vote-test.true c.vote-item.is
      c.vote_size-size.ensures.spelled c.loop-vote.invariant.all;
  spelled = all_on (λ (v : Voted). IsSpelled v.value) c.args.votes.now c.loop-vote.vote-index c.vote-item.result c.loop-vote-test.true c.vote-item.is c.loop-vote.invariant.spelled;
}
