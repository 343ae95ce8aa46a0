use Rattle.command_codec.specs.Grammar.{log_from, after_log}
use Rattle.command_codec.proofs.Loops.{goes_on, ends, is_done, begins}
use Rattle.command_codec.proofs.command_reading.read_rising_logs.Goals as goal

pub loop-turn-init : goal.loop-turn-init
loop-turn-init c = begins log_from after_log c.new-logs.result.items c.args.count 0 c.args.fields.now c.new-logs.ensures.items

pub returns-in_err-log : goal.returns-in_err-log
returns-in_err-log c =
    ends _ log_from after_log c.loop-turn.logs.items c.args.count c.loop-turn._turn c.loop-turn.least c.loop-turn.fields _ _ c.in_err-log.field-0.0 c.from_residual.result
    c.from_residual.ensures.1 c.loop-turn-test.true c.in_err-log.ensures.exact c.loop-turn.invariant

pub loop-turn-preserved : goal.loop-turn-preserved
loop-turn-preserved c =
    goes_on log_from after_log c.loop-turn.logs.items c.push.new.self.items c.args.count c.loop-turn._turn c.loop-turn.least c.loop-turn.fields c.in_ok-log.log _ _
    c.loop-turn-test.true c.in_ok-log.ensures.exact c.in_ok-push.ensures.items c.loop-turn.invariant

pub returns : goal.returns
returns c = rw c.from_vec.ensures (is_done log_from after_log c.loop-turn.logs.items c.args.count c.loop-turn._turn c.loop-turn.least c.loop-turn.fields _ c.loop-turn-test.false c.loop-turn.invariant)
