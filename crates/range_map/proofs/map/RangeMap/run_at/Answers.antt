use Rattle.std.proofs.Common.{refl}
use Rattle.range_map.proofs.ViewLemmas.{get_below, get_bare, get_cover, run_round}
use Rattle.range_map.proofs.map.RangeMap.run_at.Goals as goal

pub returns-then-i-self-clause-none : goal.returns-then-i-self-clause-none
returns-then-i-self-clause-none g c =
    ((λ _. get_below c.self.inside.floor c.self.inside.runs.entries c.args.self.now c.self.view_is c.args.i c.if-i-self.true), (λ _. refl))

pub returns-in_default-clause-none : goal.returns-in_default-clause-none
returns-in_default-clause-none g c =
    ((λ _. get_bare c.self.inside.floor c.self.inside.runs.entries c.args.self.now c.self.view_is c.args.i c.self.invariant.placed c.in_default.ensures), (λ _. refl))

pub returns-clause-none : goal.returns-clause-none
returns-clause-none g c =
    let held = get_cover c.self.inside.floor c.self.inside.runs.entries c.args.self.now c.self.view_is c.args.i c.in-Some.lo c.in-Some.run'.now c.self.invariant.placed c.if-i-self.false c.in-Some.ensures in
    ((λ no. absurd (cc)), (λ none. absurd (cc)))

pub returns-clause-run : goal.returns-clause-run
returns-clause-run g c =
    run_round c.self.inside.floor c.self.inside.runs.entries c.args.self.now c.self.view_is c.args.i c.in-Some.lo c.in-Some.run'.now _ c.max-begin.ensures c.self.invariant c.if-i-self.false c.in-Some.ensures
