use Rattle.std.proofs.Common.{◌∙◌}
use Rattle.mrp_config.proofs.Members.{any_ring}
use Rattle.mrp_config.proofs.lists.has_ring.Goals as goal

pub returns : goal.returns
returns c = c.contains.ensures.value ∙ any_ring c.args.rings.now c.args.ring.0
