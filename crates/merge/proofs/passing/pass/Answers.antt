use Rattle.std.proofs.Common.{arith, rules, ◌≡◌, ℕ, List, slice_index_or, slice_set, sym, subst, ap, ◌∙◌}
use Rattle.mrp_types.specs.declared.place.Place.{Place}
use Rattle.mrp_types.specs.declared.value.Value.{Value}
use Rattle.mrp_types.specs.Moves.{place_of, next_place}
use Rattle.mrp_types.specs.Rounds.{size_of}
use Rattle.merge.specs.Ahead.{AreAhead, AreLate}
use Rattle.merge.proofs.Turns.{none, starts, count_same, count_most, ahead_at, late, stopped, turn, fewer_left, stops}
use Rattle.merge.proofs.passing.pass.Goals as goal

pub turns-init : goal.turns-init
turns-init g c = record {
  ahead = starts 0 c.args.ahead.now (g.R.Runs.maps c.args.runs.now) c.requires.tuple.nexts c.requires.maps;
  maps = search rules;
  few = omega (arith, count_same c.args.ahead.now);
}

pub settle-requires-clause-late : goal.settle-requires-clause-late
settle-requires-clause-late g c =
    let first : place_of (next_place (size_of c.args.m.now) c.turns.ahead) ≡ c.as_place-place.result = sym (c.as_place-place.ensures ∙ ap place_of c.earliest-at.ensures.first) in
    subst (λ (p : Place). AreLate (size_of c.args.m.now) p c.turns.ahead) first (late (size_of c.args.m.now) c.args.ahead.now c.turns.ahead (g.R.Runs.maps c.turns.runs) c.turns.invariant.ahead)

pub settle-requires-clause-end : goal.settle-requires-clause-end
settle-requires-clause-end g c =
    let is = ahead_at c.args.ahead.now c.turns.ahead (g.R.Runs.maps c.turns.runs) c.earliest-at.result c.turns.invariant.ahead c.earliest-at.ensures.within in
    rw c.as_place-place.ensures is.within

pub returns-in-Err-clause-tuple : goal.returns-in-Err-clause-tuple
returns-in-Err-clause-tuple g c = (stopped (size_of c.args.m.now) c.args.ahead.now c.turns.ahead (g.R.Runs.maps c.turns.runs) c.earliest-at.result c.as_place-place.result c.settle.new.pairs c.requires.tuple c.requires.valid
    c.turns.invariant.ahead c.settle.ensures.sized c.earliest-at.ensures.within c.earliest-at.ensures.first c.as_place-place.ensures c.settle.ensures.settled).tuple

pub returns-in-Err-clause-valid : goal.returns-in-Err-clause-valid
returns-in-Err-clause-valid g c = (stopped (size_of c.args.m.now) c.args.ahead.now c.turns.ahead (g.R.Runs.maps c.turns.runs) c.earliest-at.result c.as_place-place.result c.settle.new.pairs c.requires.tuple c.requires.valid
    c.turns.invariant.ahead c.settle.ensures.sized c.earliest-at.ensures.within c.earliest-at.ensures.first c.as_place-place.ensures c.settle.ensures.settled).valid

pub returns-in-Err-clause-rings : goal.returns-in-Err-clause-rings
returns-in-Err-clause-rings g c = (stopped (size_of c.args.m.now) c.args.ahead.now c.turns.ahead (g.R.Runs.maps c.turns.runs) c.earliest-at.result c.as_place-place.result c.settle.new.pairs c.requires.tuple c.requires.valid
    c.turns.invariant.ahead c.settle.ensures.sized c.earliest-at.ensures.within c.earliest-at.ensures.first c.as_place-place.ensures c.settle.ensures.settled).rings

pub returns-in-Err-clause-stops : goal.returns-in-Err-clause-stops
returns-in-Err-clause-stops g c = (stops (size_of c.args.m.now) (g.R.Runs.maps c.turns.runs) (g.R.Runs.maps c.args.runs.now) c.args.ahead.now c.earliest-at.result (slice_index_or c.turns.ahead c.earliest-at.result none) c.as_place-place.result c.look.result c.in-Err.next c.settle.new.pairs
    c.turns.invariant.maps c.as_place-place.ensures (stopped (size_of c.args.m.now) c.args.ahead.now c.turns.ahead (g.R.Runs.maps c.turns.runs) c.earliest-at.result c.as_place-place.result c.settle.new.pairs c.requires.tuple c.requires.valid
    c.turns.invariant.ahead c.settle.ensures.sized c.earliest-at.ensures.within c.earliest-at.ensures.first c.as_place-place.ensures c.settle.ensures.settled) (record { none = c.look.ensures.none; run = c.look.ensures.run }) (sym c.found.ensures ∙ c.in-Err.is)).0

pub returns-in-Err-clause-room : goal.returns-in-Err-clause-room
returns-in-Err-clause-room g c = (stops (size_of c.args.m.now) (g.R.Runs.maps c.turns.runs) (g.R.Runs.maps c.args.runs.now) c.args.ahead.now c.earliest-at.result (slice_index_or c.turns.ahead c.earliest-at.result none) c.as_place-place.result c.look.result c.in-Err.next c.settle.new.pairs
    c.turns.invariant.maps c.as_place-place.ensures (stopped (size_of c.args.m.now) c.args.ahead.now c.turns.ahead (g.R.Runs.maps c.turns.runs) c.earliest-at.result c.as_place-place.result c.settle.new.pairs c.requires.tuple c.requires.valid
    c.turns.invariant.ahead c.settle.ensures.sized c.earliest-at.ensures.within c.earliest-at.ensures.first c.as_place-place.ensures c.settle.ensures.settled) (record { none = c.look.ensures.none; run = c.look.ensures.run }) (sym c.found.ensures ∙ c.in-Err.is)).1

pub returns-in-Err-clause-few : goal.returns-in-Err-clause-few
returns-in-Err-clause-few g c =
    let most = count_most c.args.ahead.now c.turns.ahead in
    omega (arith, c.look.ensures.looks, c.turns.invariant.few, c.turns.auto.ahead)

pub turns-smaller : goal.turns-smaller
turns-smaller g c =
    fewer_left c.args.ahead.now c.turns.ahead c.earliest-at.result c.in-Ok.pair
    (turn c.args.ahead.now c.turns.ahead (g.R.Runs.maps c.turns.runs) c.earliest-at.result c.as_place-place.result c.look.result c.in-Ok.pair c.turns.invariant.ahead c.earliest-at.ensures.within c.as_place-place.ensures
    (record { none = c.look.ensures.none; run = c.look.ensures.run }) (sym c.found.ensures ∙ c.in-Ok.is)).1

pub turns-preserved : goal.turns-preserved
turns-preserved g c =
    let goes = turn c.args.ahead.now c.turns.ahead (g.R.Runs.maps c.turns.runs) c.earliest-at.result c.as_place-place.result c.look.result c.in-Ok.pair c.turns.invariant.ahead c.earliest-at.ensures.within c.as_place-place.ensures
    (record { none = c.look.ensures.none; run = c.look.ensures.run }) (sym c.found.ensures ∙ c.in-Ok.is) in
    let one = goes.1 in
    record {
      ahead = subst (λ (ms : List (List (ℕ × Value))). AreAhead c.args.ahead.now (slice_set c.turns.ahead c.earliest-at.result c.in-Ok.pair) ms) (sym c.look.ensures.maps) goes.0;
      maps = c.look.ensures.maps ∙ c.turns.invariant.maps;
      few = omega (arith, c.look.ensures.looks, c.turns.invariant.few, one);
    }
