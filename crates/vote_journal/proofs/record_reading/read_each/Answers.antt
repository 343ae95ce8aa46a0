use Rattle.std.proofs.Common.{sym, ◌∙◌}
use Rattle.vote_journal.proofs.RecordLaws.{begins, goes_on, ends, is_done, is_past_all}
use Rattle.vote_journal.proofs.record_reading.read_each.Goals as goal

pub loop-turn-init : goal.loop-turn-init
loop-turn-init c = begins c.new-changes.result c.args.most c.args.fields.now c.new-changes.ensures

pub returns-then-is_at_end : goal.returns-then-is_at_end
returns-then-is_at_end c =
    is_past_all c.loop-turn.changes c.args.most c.loop-turn._turn c.loop-turn.fields _ c.loop-turn-test.true (sym c.is_at_end.ensures ∙ c.if-is_at_end.true) c.loop-turn.invariant

pub returns-in_err-read_change : goal.returns-in_err-read_change
returns-in_err-read_change c =
    ends c.loop-turn.changes c.args.most c.loop-turn._turn c.loop-turn.fields _ _ c.in_err-read_change.field-0.0 c.from_residual.result c.from_residual.ensures.1
    c.loop-turn-test.true (sym c.is_at_end.ensures ∙ c.if-is_at_end.false) c.in_err-read_change.ensures c.loop-turn.invariant

pub loop-turn-preserved : goal.loop-turn-preserved
loop-turn-preserved c =
    goes_on c.loop-turn.changes c.push.new.self c.args.most c.loop-turn._turn c.loop-turn.fields c.in_ok-read_change.field-0 _ _
    c.loop-turn-test.true (sym c.is_at_end.ensures ∙ c.if-is_at_end.false) c.in_ok-read_change.ensures c.in_ok-push.ensures.ok c.loop-turn.invariant

pub returns : goal.returns
returns c = is_done c.loop-turn.changes c.args.most c.loop-turn._turn c.loop-turn.fields _ c.loop-turn-test.false c.loop-turn.invariant
