use Rattle.std.proofs.Common.{arith, refl, sym, ◌∙◌}
use Rattle.world.proofs.Rings.{one_more}
use Rattle.world.proofs.built.are_among.Goals as goal

pub returns-then-not-is_among : goal.returns-then-not-is_among
returns-then-not-is_among c = (
  λ never. absurd cc,
  λ all. sym c.if-not-is_among.true ∙ c.is_among.ensures.1 (all c.loop-node.node-index (record { 0 = 0 }) c.loop-node-test.true),
)

pub loop-node-preserved : goal.loop-node-preserved
loop-node-preserved c = record {
  among = one_more c.args.nodes.now c.args.others.now c.loop-node.node-index (record { 0 = 0 }) c.loop-node-test.true c.loop-node.invariant.among
      (c.is_among.ensures.0 c.if-not-is_among.false);
}

pub returns : goal.returns
returns c = (λ _ k d inside. c.loop-node.invariant.among k d (omega (arith, inside, c.loop-node-test.false)), λ _. refl)
