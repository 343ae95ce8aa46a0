use Rattle.command_codec.specs.Grammar.{table_entry_at, key_of}
use Rattle.command_codec.proofs.Loops.{goes_on}
use Rattle.range_store.proofs.ReadLaws.{came_last, next_up_to}
use Rattle.range_store.proofs.store.RangeStore.read_entries.Goals as goal

pub loop-turn-preserved : goal.loop-turn-preserved
loop-turn-preserved c = record {
  all =
      goes_on table_entry_at key_of c.loop-turn.store c.set.new.self c.args.count c.loop-turn._turn c.loop-turn.before.now c.loop-turn.fields _ _ _ c.loop-turn-test.true c.in_ok-key.ensures.exact
      (came_last _ _ c.loop-turn.before.now c.loop-turn.store c.set.new.self c.loop-turn.invariant.last c.in_ok-key.ensures.after c.in_ok-set.ensures) c.loop-turn.invariant.all;
  last = next_up_to _ _ c.loop-turn.before.now c.loop-turn.store c.set.new.self c.loop-turn.invariant.last c.in_ok-key.ensures.after c.in_ok-set.ensures;
}
