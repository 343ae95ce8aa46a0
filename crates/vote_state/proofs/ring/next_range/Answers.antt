use Rattle.std.proofs.Common.{sym}
use Rattle.vote_state.proofs.RangeLemmas.{no_next, first_skips, first_batch}
use Rattle.vote_state.proofs.ring.next_range.Goals.{in-Skip, in-Batch}
use Rattle.vote_state.proofs.ring.next_range.Goals as goal

pub returns-in_default : goal.returns-in_default
returns-in_default c = no_next c.args.from c.args.votes.now c.in_default.ensures

pub returns : goal.returns
returns c =
    elim c.match-cast.branch [
      | in-Skip w ↦
          first_skips c.args.votes.now c.args.from c.in-Some.lo c.in-Some-run_at.field-0-0 c.in-Some-run_at.end c.match-cast.hi c.in-Some-get.cast.now c.in_ok-share.field-0 c.in-Some-get.ensures.ordered c.in-Some.ensures (sym c.in-Some-get.ensures.value)
          c.in-Some-run_at.ensures.run w.in-Skip.is w.hi-is c.in_ok-share.ensures
      | in-Batch w ↦
          first_batch c.args.votes.now c.args.from c.in-Some.lo c.match-cast.hi c.in-Some-get.cast.now c.in_ok-share.field-0 w.in-Batch.field-0 c.in-Some-get.ensures.ordered c.in-Some.ensures (sym c.in-Some-get.ensures.value) w.in-Batch.is w.hi-is
          c.in_ok-share.ensures
    ]
