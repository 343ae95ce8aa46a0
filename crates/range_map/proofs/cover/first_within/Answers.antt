use Rattle.range_map.proofs.RunsLemmas.{first_from_range}
use Rattle.range_map.proofs.cover.first_within.Goals as goal

pub returns : goal.returns
returns g c = first_from_range c.args.runs.now c.range.result c.next.new.self c.args.lo c.args.hi c.in-Some.first.now c.in-Some.run'.now (c.range.ensures.in_range _) c.in-Some.ensures.steps
