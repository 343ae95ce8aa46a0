use Rattle.command_codec.proofs.Passing.{goes_on}
use Rattle.command_codec.proofs.batch_test.pass_entries.Goals as goal

pub loop-turn-preserved : goal.loop-turn-preserved
loop-turn-preserved c = goes_on c.args.count c.loop-turn._turn c.loop-turn.fields c.pass_entry.new.fields _ c.loop-turn-test.true c.if-not-pass_entry.ensures c.loop-turn.invariant
