use Rattle.std.proofs.Common.{◌∙◌, sym, arith, length, ◌<◌}
use Rattle.ring_link.specs.Silence.{is_next, is_suspected_after, is_silent}
use Rattle.ring_link.proofs.SilenceLemmas.{find-miss, find-hit, is_next-own, is_next-suspected, is_next-other}
use Rattle.ring_link.proofs.link.RingLink.first_heard.Goals as goal

pub loop-node-preserved-then-eq : goal.loop-node-preserved-then-eq
loop-node-preserved-then-eq c =
    let lt : c.loop-node.node-index < length c.args.nodes.now = omega arith in
    let own = sym c.eq.ensures ∙ c.if-eq.true in
    record {
      counted = λ suspect events was. find-miss (is_next (is_suspected_after suspect events) c.args.own) c.args.nodes.now c.loop-node.node-index (record { 0 = 0 }) lt (c.loop-node.invariant.counted suspect events was)
          (is_next-own (is_suspected_after suspect events) c.args.own _ own);
      kept = find-miss (is_next (is_silent c.args.self.now) c.args.own) c.args.nodes.now c.loop-node.node-index (record { 0 = 0 }) lt c.loop-node.invariant.kept (is_next-own (is_silent c.args.self.now) c.args.own _ own);
    }

pub loop-node-preserved : goal.loop-node-preserved
loop-node-preserved c =
    let lt : c.loop-node.node-index < length c.args.nodes.now = omega arith in
    record {
      counted = λ suspect events was. find-miss (is_next (is_suspected_after suspect events) c.args.own) c.args.nodes.now c.loop-node.node-index (record { 0 = 0 }) lt (c.loop-node.invariant.counted suspect events was)
          (is_next-suspected (is_suspected_after suspect events) c.args.own _ (sym (c.is_suspected.ensures.counted suspect events was) ∙ c.if-not-is_suspected.false));
      kept = find-miss (is_next (is_silent c.args.self.now) c.args.own) c.args.nodes.now c.loop-node.node-index (record { 0 = 0 }) lt c.loop-node.invariant.kept
          (is_next-suspected (is_silent c.args.self.now) c.args.own _ (sym c.is_suspected.ensures.kept ∙ c.if-not-is_suspected.false));
    }

pub returns-then-not-is_suspected-clause-counted : goal.returns-then-not-is_suspected-clause-counted
returns-then-not-is_suspected-clause-counted c suspect events was =
    let lt : c.loop-node.node-index < length c.args.nodes.now = omega arith in
    find-hit (is_next (is_suspected_after suspect events) c.args.own) c.args.nodes.now c.loop-node.node-index (record { 0 = 0 }) lt (c.loop-node.invariant.counted suspect events was)
    (is_next-other (is_suspected_after suspect events) c.args.own _ (sym c.eq.ensures ∙ c.if-eq.false) (sym (c.is_suspected.ensures.counted suspect events was) ∙ c.if-not-is_suspected.true))

pub returns-then-not-is_suspected-clause-kept : goal.returns-then-not-is_suspected-clause-kept
returns-then-not-is_suspected-clause-kept c =
    let lt : c.loop-node.node-index < length c.args.nodes.now = omega arith in
    find-hit (is_next (is_silent c.args.self.now) c.args.own) c.args.nodes.now c.loop-node.node-index (record { 0 = 0 }) lt c.loop-node.invariant.kept
    (is_next-other (is_silent c.args.self.now) c.args.own _ (sym c.eq.ensures ∙ c.if-eq.false) (sym c.is_suspected.ensures.kept ∙ c.if-not-is_suspected.true))
