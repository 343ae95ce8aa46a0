use Rattle.std.proofs.Common.{◌∙◌}
use Rattle.trim.proofs.Answering.{any_node}
use Rattle.trim.proofs.subscribers.is_one_of.Goals as goal

pub returns : goal.returns
returns c = c.contains.ensures.value ∙ any_node c.args.nodes.now c.args.node.0
