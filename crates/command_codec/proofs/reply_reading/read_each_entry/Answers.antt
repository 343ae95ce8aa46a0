use Rattle.std.proofs.Common.{[]}
use Rattle.command_codec.specs.Grammar.{table_entry_at, key_of}
use Rattle.command_codec.proofs.Loops.{goes_on, ends, is_done, begins}
use Rattle.command_codec.proofs.reply_reading.read_each_entry.Goals as goal

pub loop-turn-init : goal.loop-turn-init
loop-turn-init c = begins table_entry_at key_of c.new-entries.result.items c.args.count [] c.args.fields.now c.new-entries.ensures.items

pub returns-in_err-entry : goal.returns-in_err-entry
returns-in_err-entry c =
    ends _ table_entry_at key_of c.loop-turn.entries.items c.args.count c.loop-turn._turn c.loop-turn.before.now c.loop-turn.fields _ _ c.in_err-entry.field-0.0 c.from_residual.result
    c.from_residual.ensures.1 c.loop-turn-test.true c.in_err-entry.ensures.exact c.loop-turn.invariant

pub loop-turn-preserved : goal.loop-turn-preserved
loop-turn-preserved c =
    rw c.in_ok-entry.ensures.same (goes_on table_entry_at key_of c.loop-turn.entries.items c.push.new.self.items c.args.count c.loop-turn._turn c.loop-turn.before.now c.loop-turn.fields c.in_ok-entry.entry _ _
    c.loop-turn-test.true c.in_ok-entry.ensures.exact c.in_ok-push.ensures.items c.loop-turn.invariant)

pub returns : goal.returns
returns c =
    rw c.from_vec.ensures (is_done table_entry_at key_of c.loop-turn.entries.items c.args.count c.loop-turn._turn c.loop-turn.before.now c.loop-turn.fields _ c.loop-turn-test.false c.loop-turn.invariant)
