use Rattle.std.proofs.Common.{sym, ◌∙◌}
use Rattle.vote_state.proofs.HeldLemmas.{held_empty, held_none, held_short, held_value, held_ballot}
use Rattle.vote_state.proofs.ring.holds.Goals as goal
use Rattle.range_map.proofs.EntryLemmas.{eq-false}

pub returns-then-vote : goal.returns-then-vote
returns-then-vote c = held_empty c.args.vote.now c.args.votes.now c.if-vote.true

pub returns-in_default : goal.returns-in_default
returns-in_default c = held_none c.args.vote.now c.args.votes.now c.if-vote.false (sym c.in_default.ensures.value)

pub returns-then-end-vote : goal.returns-then-end-vote
returns-then-end-vote c = held_short c.args.vote.now c.args.votes.now c.in-Some-run_at.field-0-0 c.in-Some-run_at.end c.in-Some-run_at.ensures.run c.if-end-vote.true

pub returns-then-cast-vote : goal.returns-then-cast-vote
returns-then-cast-vote c =
    held_value c.same.result c.args.vote.now c.args.votes.now c.in-Some-run_at.field-0-0 c.in-Some-run_at.end c.in-Some.cast.now c.if-vote.false c.in-Some-run_at.ensures.run c.if-end-vote.false (sym c.in-Some.ensures.value) c.if-cast-vote.true c.same.ensures

pub returns-else-cast-vote : goal.returns-else-cast-vote
returns-else-cast-vote c =
    eq-false c.in-Some.cast.now.ballot c.args.vote.now.ballot c.if-cast-vote.false ∙ held_ballot c.args.vote.now c.args.votes.now c.in-Some.cast.now c.if-vote.false (sym c.in-Some.ensures.value) c.if-cast-vote.false
