use Rattle.range_map.proofs.RunsLemmas.{last_from_range}
use Rattle.range_map.proofs.cover.last_up_to.Goals as goal

pub returns : goal.returns
returns g c = last_from_range c.args.runs.now c.range.result c.next_back.new.self c.args.i c.in-Some.lo.now c.in-Some.run'.now (c.range.ensures.in_range _) c.in-Some.ensures.steps
