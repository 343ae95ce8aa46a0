use Rattle.std.proofs.Common.{arith, sym, ◌∙◌, Some, None}
use Rattle.range_store.specs.Table.{seen}
use Rattle.range_store.proofs.StoreLaws.{gone_kept, gone_fits, delete_none, held_short}
use Rattle.range_store.proofs.store.RangeStore.delete.Goals as goal

pub invariant_of-self : goal.invariant_of-self
invariant_of-self c =
    let kept = gone_kept (seen c.self.inside.entries.entries) (seen c.take_out.new.entries.entries) c.args.key.now c.self.inside.size None c.self.invariant.0 c.self.invariant.1 (sym c.in_default.is ∙ c.take_out.ensures.value) c.take_out.ensures.state in
    (kept.0, omega (arith, kept.1))

pub returns-in_default-clause-state : goal.returns-in_default-clause-state
returns-in_default-clause-state c =
    delete_none (seen c.self.inside.entries.entries) c.args.self.now _ c.args.key.now c.self.view_is (sym c.in_default.is ∙ c.take_out.ensures.value) c.take_out.ensures.state

pub overflow_add-self-2 : goal.overflow_add-self-2
overflow_add-self-2 c =
    omega (arith, held_short c.args.key.now c.in-Some.value (seen c.self.inside.entries.entries) c.self.invariant.0 (sym c.in-Some.is ∙ c.take_out.ensures.value), c.requires.1, c.len.ensures)

pub overflow_add-self : goal.overflow_add-self
overflow_add-self c =
    omega (arith, held_short c.args.key.now c.in-Some.value (seen c.self.inside.entries.entries) c.self.invariant.0 (sym c.in-Some.is ∙ c.take_out.ensures.value), c.requires.1, c.len.ensures)

pub overflow_sub-self : goal.overflow_sub-self
overflow_sub-self c =
    omega (arith, gone_fits (seen c.self.inside.entries.entries) c.args.key.now c.self.inside.size (Some c.in-Some.value) c.self.invariant.0 c.self.invariant.1 (sym c.in-Some.is ∙ c.take_out.ensures.value), c.len.ensures)

pub invariant_of-self-2 : goal.invariant_of-self-2
invariant_of-self-2 c =
    let kept = gone_kept (seen c.self.inside.entries.entries) _ c.args.key.now c.self.inside.size (Some c.in-Some.value) c.self.invariant.0 c.self.invariant.1 (sym c.in-Some.is ∙ c.take_out.ensures.value) c.take_out.ensures.state in
    (kept.0, omega (arith, kept.1, c.len.ensures))
