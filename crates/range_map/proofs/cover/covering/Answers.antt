use Rattle.range_map.proofs.RunsLemmas.{bare_from_last}
use Rattle.range_map.proofs.cover.covering.Goals as goal

pub returns-else-i-run : goal.returns-else-i-run
returns-else-i-run g c = bare_from_last c.args.runs.now.entries c.args.i c.in-Some.lo c.in-Some.run'.now c.requires c.in-Some.ensures c.if-i-run.false
