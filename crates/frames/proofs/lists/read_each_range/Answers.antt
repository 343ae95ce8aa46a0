use Rattle.command_codec.proofs.Loops.{goes_on, ends, is_done, begins}
use Rattle.frames.specs.Ranges.{nothing_before, after_decided}
use Rattle.frames.specs.Grammar.{decided_at}
use Rattle.frames.proofs.lists.read_each_range.Goals as goal

pub loop-turn-init : goal.loop-turn-init
loop-turn-init c = rw c.none-before.ensures (begins decided_at after_decided c.new-ranges.result c.args.count nothing_before c.args.fields.now c.new-ranges.ensures)

pub returns-in_err-decided : goal.returns-in_err-decided
returns-in_err-decided c =
    ends _ decided_at after_decided c.loop-turn.ranges c.args.count c.loop-turn._turn c.loop-turn.before c.loop-turn.fields _ _ c.in_err-decided.field-0.0 c.from_residual.result
    c.from_residual.ensures.1 c.loop-turn-test.true c.in_err-decided.ensures c.loop-turn.invariant

pub loop-turn-preserved : goal.loop-turn-preserved
loop-turn-preserved c =
    rw c.after_decided-before.ensures
    (goes_on decided_at after_decided c.loop-turn.ranges c.push.new.self c.args.count c.loop-turn._turn c.loop-turn.before c.loop-turn.fields c.in_ok-decided.decided _ _
    c.loop-turn-test.true c.in_ok-decided.ensures c.in_ok-push.ensures.ok c.loop-turn.invariant)

pub returns : goal.returns
returns c = is_done decided_at after_decided c.loop-turn.ranges c.args.count c.loop-turn._turn c.loop-turn.before c.loop-turn.fields _ c.loop-turn-test.false c.loop-turn.invariant
