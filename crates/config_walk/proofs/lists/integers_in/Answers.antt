use Rattle.std.proofs.Common.{map, rules, w64}
use Rattle.std.proofs.lemmas.Int.{to_z-of_z}
use mir.Val.{SFits}
use Rattle.toml.specs.View.{view}
use Rattle.config_walk.specs.Values.{integer_in, integers_in}
use Rattle.config_walk.proofs.Chains.{begins, goes_on, ends, is_done}
use Rattle.config_walk.proofs.Views.{one_more, none_more}
use Rattle.config_walk.proofs.lists.integers_in.Goals as goal

pub loop-value-init : goal.loop-value-init
loop-value-init c = begins c.new-integers.result.items (integers_in c.args.name.now (map view c.args.values.now)) c.new-integers.ensures.items

pub returns-in_err-integer_in : goal.returns-in_err-integer_in
returns-in_err-integer_in c =
    ends _ (λ (s : Unit {0}). integer_in c.args.name.now) (λ s z. s) tt c.loop-value.integers.items _ _ _ _ c.in_err-integer_in.field-0.0 c.from_residual.result
    c.from_residual.ensures.1 (one_more view c.args.values.now c.loop-value.value-index _ c.loop-value-test.true c.value-item.is) c.in_err-integer_in.ensures c.loop-value.invariant

pub loop-value-preserved : goal.loop-value-preserved
loop-value-preserved c =
    let fits : SFits w64 c.in_ok-integer_in.field-0 = search rules in
    goes_on (λ (s : Unit {0}). integer_in c.args.name.now) (λ s z. s) tt c.loop-value.integers.items c.push.new.self.items _ _ _ c.in_ok-integer_in.field-0 _
    (one_more view c.args.values.now c.loop-value.value-index _ c.loop-value-test.true c.value-item.is) c.in_ok-integer_in.ensures (simp to_z-of_z at c.in_ok-push.ensures.items) c.loop-value.invariant

pub returns : goal.returns
returns c = is_done (λ (s : Unit {0}). integer_in c.args.name.now) (λ s z. s) tt c.loop-value.integers.items _ _ (none_more view c.args.values.now c.loop-value.value-index c.loop-value-test.false) c.loop-value.invariant
