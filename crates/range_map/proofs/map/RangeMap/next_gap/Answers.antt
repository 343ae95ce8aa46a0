use Rattle.std.proofs.Common.{arith}
use Rattle.range_map.proofs.RunsLemmas.{apart_from_placed}
use Rattle.range_map.proofs.ViewLemmas.{gap_below, gap_step, gap_found}
use Rattle.range_map.proofs.map.RangeMap.next_gap.Goals as goal

pub returns-then-gap-self : goal.returns-then-gap-self
returns-then-gap-self g c = gap_below c.self.inside.floor c.self.inside.runs.entries c.args.self.now c.self.view_is c.args.from c.if-gap-self.true

pub loop-run-smaller : goal.loop-run-smaller
loop-run-smaller g c =
    let apart = apart_from_placed 0 c.self.inside.runs.entries c.self.invariant.placed in
    let cover = c.in-Some.ensures in
    let end = apart.ended c.in-Some.field-0-0 c.in-Some.run'.now cover.found in
    let past = cover.ends in
    omega arith

pub loop-run-preserved : goal.loop-run-preserved
loop-run-preserved g c =
    let cover = c.in-Some.ensures in
    let past = cover.ends in
    let from = c.loop-run.invariant.from_there in
    record {
      from_there = omega arith;
      held_before = gap_step c.self.inside.floor c.self.inside.runs.entries c.args.self.now c.self.view_is c.args.from c.loop-run.gap c.in-Some.field-0-0 c.in-Some.run'.now c.self.invariant.placed cover c.loop-run.invariant.held_before;
    }

pub returns : goal.returns
returns g c =
    gap_found c.self.inside.floor c.self.inside.runs.entries c.args.self.now c.self.view_is c.args.from c.loop-run.gap c.self.invariant.placed c.if-gap-self.false c.loop-run.invariant.from_there c.loop-run.invariant.held_before c.in_default.ensures
