use Rattle.std.proofs.Common.{arith}
use Rattle.std.proofs.lemmas.Grind.{common_steps}
use Rattle.world.proofs.Frames.{valid_submit}
use Rattle.world.proofs.world.World.ask.Goals as goal

pub send-requires : goal.send-requires
send-requires c =
    valid_submit c.self.inside.ring c.args.client c.saturating_add-seq.result c.args.command.now c.in_ok-command.command c.self.invariant.0
    (grind (arith, common_steps, c.saturating_add-seq.ensures)) (grind (arith, c.if-seq-ge-NUMBERS.false)) c.requires c.in_ok-command.ensures
