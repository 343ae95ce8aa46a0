use Rattle.std.proofs.Common.{◌∙◌, ◌++◌, List, ℕ, Result, Ok, Err, OnErr, inr, ap}
use Rattle.gate_log.specs.Records.{inner}
use Rattle.gate_log.proofs.Bytes.{sealed_again, inner-sealed}
use Rattle.gate_log.proofs.body.Body.push.Goals as goal

pub add-requires : goal.add-requires
add-requires c = sealed_again (inner c.self.inside.written.items) c.begin.new.written.items c.in_ok-begin.ensures.ok

pub invariant_of-self-in_err-add : goal.invariant_of-self-in_err-add
invariant_of-self-in_err-add c =
    inr (sealed_again (inner c.self.inside.written.items) c.add.new.written.items (c.in_err-add.ensures.err ∙ c.in_ok-begin.ensures.ok))

pub invariant_of-self-2 : goal.invariant_of-self-2
invariant_of-self-2 c =
    inr (sealed_again (inner c.begin.new.written.items ++ c.args.bytes.now) c.add.new.written.items c.in_ok-add.ensures.ok)

pub returns-clause-ok : goal.returns-clause-ok
returns-clause-ok c =
    ap inner c.in_ok-add.ensures.ok ∙ inner-sealed (inner c.begin.new.written.items ++ c.args.bytes.now)
    ∙ ap (λ (l : List ℕ). l ++ c.args.bytes.now) (ap inner c.in_ok-begin.ensures.ok ∙ inner-sealed (inner c.self.inside.written.items) ∙ c.self.view_is)

on_err : {T E P : Type 0} (r : Result T E) → P → OnErr r P
on_err (Ok x) p = tt
on_err (Err e) p = p

pub returns-in_err-add-clause-err : goal.returns-in_err-add-clause-err
returns-in_err-add-clause-err c =
    on_err c.from_residual-in_err-add.result
    (ap inner (c.in_err-add.ensures.err ∙ c.in_ok-begin.ensures.ok) ∙ inner-sealed (inner c.self.inside.written.items) ∙ c.self.view_is)
