use Rattle.range_map.proofs.SetLemmas.{drops_more, freed_first}
use Rattle.range_map.proofs.edits.drop_passed.Goals as goal

pub loop-run-preserved-else-floor-run : goal.loop-run-preserved-else-floor-run
loop-run-preserved-else-floor-run g c =
    drops_more c.args.floor c.args.runs.now.entries c.loop-run.runs.entries c.pop_first.new.self.entries c.pop_first.result c.in-Some.field-0-0.now c.in-Some.run'.now c.loop-run.invariant c.in-Some.ensures.first c.if-floor-run.false c.pop_first.ensures.removal c.pop_first.ensures.unchanged

pub returns-then-floor-run-clause-freed : goal.returns-then-floor-run-clause-freed
returns-then-floor-run-clause-freed g c =
    freed_first c.args.floor c.loop-run.runs c.in-Some.field-0-0.now c.in-Some.run'.now c.loop-run.invariant.maximal.placed c.in-Some.ensures.value c.in-Some.ensures.least c.if-floor-run.true
