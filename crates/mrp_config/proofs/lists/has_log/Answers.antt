use Rattle.std.proofs.Common.{◌∙◌}
use Rattle.mrp_config.proofs.Members.{any_log}
use Rattle.mrp_config.proofs.lists.has_log.Goals as goal

pub returns : goal.returns
returns c = c.contains.ensures.value ∙ any_log c.args.logs.now c.args.log.0
