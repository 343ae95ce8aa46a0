use Rattle.range_map.proofs.ViewLemmas.{run_here, run_later, after_end, after_none}
use Rattle.range_map.proofs.map.RangeMap.first_run.Goals as goal

pub returns-in-Some : goal.returns-in-Some
returns-in-Some g c =
    run_here c.self.inside.floor c.self.inside.runs.entries c.args.self.now c.self.view_is c.args.from c.max-start.result c.in-Some.field-0-0 c.in-Some.run'.now c.max-start.ensures c.self.invariant c.in-Some.ensures

pub returns-then-start-ge-END : goal.returns-then-start-ge-END
returns-then-start-ge-END g c =
    after_end c.self.inside.floor c.self.inside.runs.entries c.args.self.now c.self.view_is c.args.from c.max-start.result c.max-start.ensures c.self.invariant.placed c.if-start-ge-END.true

pub returns-in_default-first_within : goal.returns-in_default-first_within
returns-in_default-first_within g c =
    after_none c.self.inside.floor c.self.inside.runs.entries c.args.self.now c.self.view_is c.args.from c.max-start.result c.max-start.ensures c.self.invariant.placed c.in_default.ensures c.in_default-first_within.ensures

pub returns : goal.returns
returns g c =
    run_later c.self.inside.floor c.self.inside.runs.entries c.args.self.now c.self.view_is c.args.from c.max-start.result c.in-Some-first_within.first c.in-Some-first_within.run'.now c.max-start.ensures c.self.invariant c.in_default.ensures c.in-Some-first_within.ensures
