use Rattle.std.proofs.Common.{arith, ◌<◌, length, drop}
use Rattle.std.proofs.lemmas.Grind.{common_steps}
use Rattle.outside.proofs.Pieces.{taken_further}
use Rattle.outside.proofs.sink.write_all.Goals as goal
use Rattle.mrp_types.proofs.TestLemmas.{all_of_rest}

pub loop-turn-preserved : goal.loop-turn-preserved
loop-turn-preserved g c =
    let bytes = c.args.bytes.now in
    let done = c.loop-turn.done in
    let whole = all_of_rest done bytes in
    let took = rw whole at c.in_ok-done.ensures in
    let more : 0 < length (drop done bytes) = grind (arith, common_steps, c.loop-turn.invariant.front, c.if-done-bytes.false) in
    record {
      taken = taken_further _ _ _ bytes done c.in_ok-done.field-0 c.loop-turn.invariant.taken took.bytes;
      turns = let some = took.some more in grind (arith, c.loop-turn.invariant.turns);
      front = let fits = took.bound in grind (arith, common_steps, c.loop-turn.invariant.front);
      kept = grind (arith, took.fault, c.loop-turn.invariant.kept);
    }
