use Rattle.std.proofs.Common.{sym}
use Rattle.range_map.proofs.ViewLemmas.{get_below, get_bare, get_cover, ordered}
use Rattle.range_map.proofs.map.RangeMap.get.Goals as goal

pub returns-then-i-self-clause-value : goal.returns-then-i-self-clause-value
returns-then-i-self-clause-value g c = sym (get_below c.self.inside.floor c.self.inside.runs.entries c.args.self.now c.self.view_is c.args.i c.if-i-self.true)

pub returns-then-i-self-clause-ordered : goal.returns-then-i-self-clause-ordered
returns-then-i-self-clause-ordered g c = ordered c.self.inside.floor c.self.inside.runs.entries c.args.self.now c.self.view_is c.self.invariant.placed

pub returns-in_default-clause-value : goal.returns-in_default-clause-value
returns-in_default-clause-value g c =
    sym (get_bare c.self.inside.floor c.self.inside.runs.entries c.args.self.now c.self.view_is c.args.i c.self.invariant.placed c.in_default.ensures)

pub returns-in_default-clause-ordered : goal.returns-in_default-clause-ordered
returns-in_default-clause-ordered g c = ordered c.self.inside.floor c.self.inside.runs.entries c.args.self.now c.self.view_is c.self.invariant.placed

pub returns-clause-value : goal.returns-clause-value
returns-clause-value g c =
    sym (get_cover c.self.inside.floor c.self.inside.runs.entries c.args.self.now c.self.view_is c.args.i c.in-Some.field-0-0 c.in-Some.run'.now c.self.invariant.placed c.if-i-self.false c.in-Some.ensures)

pub returns-clause-ordered : goal.returns-clause-ordered
returns-clause-ordered g c = ordered c.self.inside.floor c.self.inside.runs.entries c.args.self.now c.self.view_is c.self.invariant.placed
