use Rattle.std.proofs.Common.{◌∙◌}
use Rattle.range_store.proofs.MapLaws.{found}
use Rattle.range_store.proofs.map.find.Goals as goal

pub returns : goal.returns
returns c = c.get.ensures.value ∙ found c.args.key.now c.args.entries.now.entries
