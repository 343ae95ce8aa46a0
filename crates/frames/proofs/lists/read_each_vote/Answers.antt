use Rattle.command_codec.proofs.Loops.{goes_on, ends, is_done, begins}
use Rattle.frames.specs.Ranges.{nothing_before, after_vote}
use Rattle.frames.specs.Grammar.{vote_at}
use Rattle.frames.proofs.lists.read_each_vote.Goals as goal

pub loop-turn-init : goal.loop-turn-init
loop-turn-init c = rw c.none-before.ensures (begins vote_at after_vote c.new-votes.result c.args.count nothing_before c.args.fields.now c.new-votes.ensures)

pub returns-in_err-vote : goal.returns-in_err-vote
returns-in_err-vote c =
    ends _ vote_at after_vote c.loop-turn.votes c.args.count c.loop-turn._turn c.loop-turn.before c.loop-turn.fields _ _ c.in_err-vote.field-0.0 c.from_residual.result
    c.from_residual.ensures.1 c.loop-turn-test.true c.in_err-vote.ensures c.loop-turn.invariant

pub loop-turn-preserved : goal.loop-turn-preserved
loop-turn-preserved c =
    rw c.after_vote-before.ensures
    (goes_on vote_at after_vote c.loop-turn.votes c.push.new.self c.args.count c.loop-turn._turn c.loop-turn.before c.loop-turn.fields c.in_ok-vote.vote _ _
    c.loop-turn-test.true c.in_ok-vote.ensures c.in_ok-push.ensures.ok c.loop-turn.invariant)

pub returns : goal.returns
returns c = is_done vote_at after_vote c.loop-turn.votes c.args.count c.loop-turn._turn c.loop-turn.before c.loop-turn.fields _ c.loop-turn-test.false c.loop-turn.invariant
