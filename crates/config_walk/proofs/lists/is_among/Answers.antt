use Rattle.std.proofs.Common.{◌∙◌}
use Rattle.config_walk.proofs.Among.{any_is}
use Rattle.config_walk.proofs.lists.is_among.Goals as goal

pub returns : goal.returns
returns c = c.contains.ensures.value ∙ any_is c.args.number c.args.numbers.now
