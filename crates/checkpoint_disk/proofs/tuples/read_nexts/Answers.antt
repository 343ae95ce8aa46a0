use Rattle.std.proofs.Common.{arith, ◌+◌, ◌∷◌, [], ap, refl, ◌∙◌, length-append}
use Rattle.command_codec.proofs.Loops.{goes_on, ends, is_done, begins}
use Rattle.frames.specs.Grammar.{next_at, after_ring}
use Rattle.frames.proofs.Tuples.{are_nexts, one_behind}
use Rattle.checkpoint_disk.proofs.tuples.read_nexts.Goals as goal

pub loop-turn-init : goal.loop-turn-init
loop-turn-init c = (begins next_at after_ring c.new-pairs.result.items c.args.count 0 c.args.fields.now c.new-pairs.ensures.items, rw c.new-pairs.ensures.items refl, rw c.new-pairs.ensures.items (omega arith))

pub returns-in_err-next-clause-exact : goal.returns-in_err-next-clause-exact
returns-in_err-next-clause-exact c =
    ends _ next_at after_ring c.loop-turn.pairs.items c.args.count c.loop-turn._turn c.loop-turn.least c.loop-turn.fields _ _ c.in_err-next.field-0.0 c.from_residual.result
    c.from_residual.ensures.1 c.loop-turn-test.true c.in_err-next.ensures.exact c.loop-turn.invariant.0

pub loop-turn-preserved : goal.loop-turn-preserved
loop-turn-preserved c = (
  goes_on next_at after_ring c.loop-turn.pairs.items c.push.new.self.items c.args.count c.loop-turn._turn c.loop-turn.least c.loop-turn.fields c.in_ok-next.next _ _
      c.loop-turn-test.true c.in_ok-next.ensures.exact c.in_ok-push.ensures.items c.loop-turn.invariant.0,
  rw c.in_ok-push.ensures.items (length-append c.loop-turn.pairs.items (c.in_ok-next.next ∷ []) ∙ ap (λ n. n + 1) c.loop-turn.invariant.1),
  rw c.in_ok-push.ensures.items (one_behind 0 c.loop-turn.least c.loop-turn.pairs.items c.in_ok-next.next c.loop-turn.invariant.2 c.in_ok-next.ensures.least c.in_ok-next.ensures.ring c.in_ok-next.ensures.inst),
)

pub returns-clause-nexts : goal.returns-clause-nexts
returns-clause-nexts c = are_nexts 0 c.loop-turn.least c.loop-turn.pairs.items c.loop-turn.invariant.2

pub returns-clause-exact : goal.returns-clause-exact
returns-clause-exact c = is_done next_at after_ring c.loop-turn.pairs.items c.args.count c.loop-turn._turn c.loop-turn.least c.loop-turn.fields _ c.loop-turn-test.false c.loop-turn.invariant.0
