use Rattle.std.proofs.Common.{arith}
use Rattle.world.proofs.Frames.{valid_accept, valid_decide}
use Rattle.world.proofs.world.World.vote.Goals as goal

pub pass_on-requires-clause-frame : goal.pass_on-requires-clause-frame
pass_on-requires-clause-frame c =
    valid_accept c.self.inside.ring c.args.seat.node _ c.args.inst c.args.mask c.args.value c.self.invariant.0 c.requires.seat.low
    (grind (arith, c.from-then-mask-from.ensures, c.len-n.ensures)) c.requires.inst c.requires.value

pub pass_on-requires-2-clause-frame : goal.pass_on-requires-2-clause-frame
pass_on-requires-2-clause-frame c =
    valid_decide c.self.inside.ring c.args.seat.node c.args.inst _ c.args.value c.self.invariant.0 c.requires.seat.low c.requires.inst c.requires.value
