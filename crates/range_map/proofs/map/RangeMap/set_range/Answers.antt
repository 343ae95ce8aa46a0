use Rattle.range_map.proofs.ViewLemmas.{set_value, set_entries, cut_ordered}
use Rattle.range_map.proofs.map.RangeMap.set_range.Goals as goal

pub returns-in-Ok-clause-value : goal.returns-in-Ok-clause-value
returns-in-Ok-clause-value g c =
    set_value c.self.inside.floor c.self.inside.runs.entries c.args.self.now c.self.view_is c.args.lo c.args.hi c.in-Ok.floor c.args.value c.replace_range.new.runs.entries c.in-Ok.ensures

pub returns-in-Ok-clause-entries : goal.returns-in-Ok-clause-entries
returns-in-Ok-clause-entries g c =
    set_entries c.self.inside.floor c.self.inside.runs.entries c.args.self.now c.self.view_is c.args.lo c.args.hi c.in-Ok.floor c.args.value c.replace_range.new.runs.entries c.requires.range c.self.invariant.placed c.in-Ok.ensures

pub returns-in-Ok-clause-ordered : goal.returns-in-Ok-clause-ordered
returns-in-Ok-clause-ordered g c =
    cut_ordered c.self.inside.floor c.self.inside.runs.entries c.args.self.now c.self.view_is c.in-Ok.floor c.replace_range.new.runs.entries c.in-Ok.ensures.maximal.placed
