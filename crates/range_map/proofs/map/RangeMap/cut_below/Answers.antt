use Rattle.range_map.proofs.ViewLemmas.{cut_value, cut_ordered, cut_entries, cut_idle_value, cut_idle_entries, ordered}
use Rattle.range_map.proofs.map.RangeMap.cut_below.Goals as goal

pub returns-then-self-i-clause-entries : goal.returns-then-self-i-clause-entries
returns-then-self-i-clause-entries g c =
    cut_entries c.self.inside.floor c.self.inside.runs.entries c.args.self.now c.self.view_is c.args.i c.drop_passed.new.runs.entries c.self.invariant.placed c.if-self-i.true c.drop_passed.ensures.kept

pub returns-then-self-i-clause-value : goal.returns-then-self-i-clause-value
returns-then-self-i-clause-value g c =
    cut_value c.self.inside.floor c.self.inside.runs.entries c.args.self.now c.self.view_is c.args.i c.drop_passed.new.runs.entries c.if-self-i.true c.drop_passed.ensures.kept

pub returns-then-self-i-clause-ordered : goal.returns-then-self-i-clause-ordered
returns-then-self-i-clause-ordered g c =
    cut_ordered c.self.inside.floor c.self.inside.runs.entries c.args.self.now c.self.view_is c.args.i c.drop_passed.new.runs.entries c.drop_passed.ensures.kept.maximal.placed

pub returns-else-self-i-clause-entries : goal.returns-else-self-i-clause-entries
returns-else-self-i-clause-entries g c =
    cut_idle_entries c.self.inside.floor c.self.inside.runs.entries c.args.self.now c.self.view_is c.args.i c.self.invariant.placed c.if-self-i.false

pub returns-else-self-i-clause-value : goal.returns-else-self-i-clause-value
returns-else-self-i-clause-value g c =
    cut_idle_value c.self.inside.floor c.self.inside.runs.entries c.args.self.now c.self.view_is c.args.i c.if-self-i.false

pub returns-else-self-i-clause-ordered : goal.returns-else-self-i-clause-ordered
returns-else-self-i-clause-ordered g c = ordered c.self.inside.floor c.self.inside.runs.entries c.args.self.now c.self.view_is c.self.invariant.placed
