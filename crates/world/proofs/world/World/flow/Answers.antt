use Rattle.std.proofs.Common.{◌∙◌, sym}
use Rattle.world.proofs.Events.{one_turn, Flows}
use Rattle.world.proofs.world.World.flow.Goals as goal

pub loop-turn-preserved : goal.loop-turn-preserved
loop-turn-preserved c =
    let moved = rw c.in-Some.is at c.next_frame.ensures.moved in
    let so_far : Flows c.args.count c.loop-turn._turn c.loop-turn.self c.args.self.now c.loop-turn.lines c.args.lines.now =
    record { world = c.loop-turn.invariant.world; lines = c.loop-turn.invariant.lines } in
    let done = one_turn c.args.count c.loop-turn._turn c.in-Some.number c.loop-turn.self c.next_frame.new.self c.deliver.new.self c.args.self.now
    c.loop-turn.lines c.deliver.new.lines c.args.lines.now c.loop-turn-test.true
    (sym c.in-Some.is ∙ c.next_frame.ensures.number) moved c.in_ok-deliver.ensures.world c.in_ok-deliver.ensures.lines so_far in
    record { world = done.world; lines = done.lines }
