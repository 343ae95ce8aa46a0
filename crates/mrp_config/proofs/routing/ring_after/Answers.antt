use Rattle.std.proofs.Common.{sym, ◌∙◌}
use Rattle.mrp_config.proofs.Masks.{route_alone, route_shared}
use Rattle.mrp_config.proofs.routing.ring_after.Goals as goal

pub returns-in-None : goal.returns-in-None
returns-in-None c = sym (route_alone c.args.command.now c.args.others.now c.args.first.now (sym c.in-None.ensures))

pub returns-in-Some : goal.returns-in-Some
returns-in-Some c =
    c.common_ring.ensures ∙ rw c.items.ensures (sym (route_shared c.args.command.now c.args.others.now c.args.first.now _ (sym c.in-Some.ensures)))
