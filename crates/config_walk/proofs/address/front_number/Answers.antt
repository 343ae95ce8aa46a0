use Rattle.std.proofs.Common.{arith, ◌≤◌, get_or, sym}
use Rattle.std.specs.Char.{digit_value}
use Rattle.std.proofs.NetLemmas.Numbers.{read_number_some_at, read_number_large_at, read_number_empty}
use Rattle.config_walk.proofs.Digits.{more_digits, past_end, no_digit}
use Rattle.config_walk.proofs.address.front_number.Goals.{else-loop-byte-test, then-loop-byte-test+in_default}
use Rattle.config_walk.proofs.address.front_number.Goals as goal

pub returns-then-next-most-clause-value : goal.returns-then-next-most-clause-value
returns-then-next-most-clause-value c =
    let i = c.loop-byte.invariant in
    let h = more_digits _ _ _ _ _ _ i.0 c.loop-byte-test.true i.1 i.2 c.from.ensures c.in-Some.ensures.value in
    sym (read_number_large_at _ _ _ _ (omega arith) h.0 (rw (← h.1) c.if-next-most.true))

pub loop-byte-preserved : goal.loop-byte-preserved
loop-byte-preserved c =
    let i = c.loop-byte.invariant in
    let h = more_digits _ _ _ _ _ _ i.0 c.loop-byte-test.true i.1 i.2 c.from.ensures c.in-Some.ensures.value in
    (omega arith, h.0, h.1, c.if-next-most.false)

pub returns-then-count-eq0-clause-value : goal.returns-then-count-eq0-clause-value
returns-then-count-eq0-clause-value c =
    let stop : 10 ≤ digit_value (get_or c.args.text.now c.loop-byte.count 0) = elim c.loop-byte-test.branch [
      | else-loop-byte-test w ↦ past_end _ _ _ c.loop-byte.invariant.0 w.loop-byte-test.false
      | then-loop-byte-test+in_default w ↦ no_digit _ _ _ _ c.loop-byte.invariant.0 w.from.ensures w.in_default.ensures.value
    ] in
    sym (read_number_empty _ _ c.args.text.now (rw c.if-count-eq0.true at stop))

pub returns-clause-value : goal.returns-clause-value
returns-clause-value c =
    let i = c.loop-byte.invariant in
    let stop : 10 ≤ digit_value (get_or c.args.text.now c.loop-byte.count 0) = elim c.loop-byte-test.branch [
      | else-loop-byte-test w ↦ past_end _ _ _ i.0 w.loop-byte-test.false
      | then-loop-byte-test+in_default w ↦ no_digit _ _ _ _ i.0 w.from.ensures w.in_default.ensures.value
    ] in
    let read = read_number_some_at _ c.args.most _ _ (omega arith) (omega arith) i.1 (rw (← i.2) i.3) stop in
    rw i.2 (sym read)
