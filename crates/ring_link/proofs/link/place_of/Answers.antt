use Rattle.std.proofs.Common.{◌∙◌, sym, arith, length, ◌≤◌}
use Rattle.std.specs.Prelude.{◌==◌}
use Rattle.std.proofs.lemmas.List.Sums.{position_or_len_is}
use Rattle.mrp_types.specs.declared.id.NodeId.{NodeId}
use Rattle.ring_link.proofs.link.place_of.Goals as goal

pub returns-then-eq-clause-place : goal.returns-then-eq-clause-place
returns-then-eq-clause-place c =
    let up_to : c.loop-at.at ≤ length c.args.order.now = omega arith in
    sym (position_or_len_is (λ (n : NodeId). n.0 == c.args.own.0) c.args.order.now c.loop-at.at (record { 0 = 0 }) up_to c.loop-at.invariant (λ _. sym c.eq.ensures ∙ c.if-eq.true))

pub returns-clause-place : goal.returns-clause-place
returns-clause-place c =
    let up_to : length c.args.order.now ≤ length c.args.order.now = omega arith in
    sym (position_or_len_is (λ (n : NodeId). n.0 == c.args.own.0) c.args.order.now (length c.args.order.now) (record { 0 = 0 }) up_to (λ k h. c.loop-at.invariant k (omega arith)) (λ lt. absurd (omega arith)))
