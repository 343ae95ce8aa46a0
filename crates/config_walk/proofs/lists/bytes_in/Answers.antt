use Rattle.std.proofs.Common.{ℕ, ap, length, length-append, get_or, pos, w64, rules, arith}
use Rattle.std.proofs.lemmas.List.{drop_more, drop_all}
use Rattle.std.proofs.lemmas.Int.{to_z-of_z}
use mir.Val.{SFits}
use Rattle.config_walk.specs.Values.{in_range, each_in}
use Rattle.config_walk.proofs.Chains.{begins, goes_on, ends, is_done}
use Rattle.config_walk.proofs.lists.bytes_in.Goals as goal

pub loop-integer-init : goal.loop-integer-init
loop-integer-init c = (
  begins c.new-numbers.result.items (each_in c.args.name.now c.args.greatest c.args.integers.now) c.new-numbers.ensures.items,
  ap length c.new-numbers.ensures.items,
)

pub returns-in_err-number-clause-walk : goal.returns-in_err-number-clause-walk
returns-in_err-number-clause-walk c =
    let fits : SFits w64 (get_or c.args.integers.now c.loop-integer.integer-index (pos 0)) = search rules in
    ends _ (λ (s : Unit {0}). in_range c.args.name.now 0 c.args.greatest) (λ s n. s) tt c.loop-integer.numbers.items _ _ _ _ c.in_err-number.field-0.0 c.from_residual.result
    c.from_residual.ensures.1 (drop_more c.args.integers.now c.loop-integer.integer-index (pos 0) c.loop-integer-test.true) (simp (to_z-of_z, c.from.ensures) at c.in_err-number.ensures.walk) c.loop-integer.invariant.0

pub loop-integer-preserved : goal.loop-integer-preserved
loop-integer-preserved c =
    let fits : SFits w64 (get_or c.args.integers.now c.loop-integer.integer-index (pos 0)) = search rules in (
      goes_on (λ (s : Unit {0}). in_range c.args.name.now 0 c.args.greatest) (λ s n. s) tt c.loop-integer.numbers.items c.push.new.self.items _ _ _ c.in_ok-number.number _
          (drop_more c.args.integers.now c.loop-integer.integer-index (pos 0) c.loop-integer-test.true) (simp (to_z-of_z, c.from.ensures) at c.in_ok-number.ensures.walk) c.in_ok-push.ensures.items c.loop-integer.invariant.0,
      omega (arith, ap length c.in_ok-push.ensures.items, length-append {A = ℕ}),
    )

pub returns-clause-walk : goal.returns-clause-walk
returns-clause-walk c = is_done (λ (s : Unit {0}). in_range c.args.name.now 0 c.args.greatest) (λ s n. s) tt c.loop-integer.numbers.items _ _ (drop_all c.loop-integer.integer-index c.args.integers.now c.loop-integer-test.false) c.loop-integer.invariant.0
