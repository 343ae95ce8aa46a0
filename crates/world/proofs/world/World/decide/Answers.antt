use Rattle.world.proofs.Frames.{valid_decide}
use Rattle.world.proofs.world.World.decide.Goals as goal

pub pass_on-requires-clause-frame : goal.pass_on-requires-clause-frame
pass_on-requires-clause-frame c =
    valid_decide c.self.inside.ring c.args.seat.node c.args.inst _ c.args.value c.self.invariant.0 c.requires.seat.low c.requires.inst c.requires.value
