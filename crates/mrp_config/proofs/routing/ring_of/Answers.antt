use Rattle.std.proofs.Common.{sym, ◌∙◌}
use Rattle.mrp_config.proofs.Masks.{route_none, route_from}
use Rattle.mrp_config.proofs.routing.ring_of.Goals as goal

pub returns-in-None : goal.returns-in-None
returns-in-None c = sym (route_none c.args.command.now c.args.partitions.now (sym c.in-None.ensures))

pub returns-in-Some : goal.returns-in-Some
returns-in-Some c = c.ring_after.ensures ∙ sym (route_from c.args.command.now c.args.partitions.now _ _ (sym c.in-Some.ensures))
