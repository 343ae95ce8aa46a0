use Rattle.std.proofs.Common.{◌≡◌, ◌<◌, ◌∷◌, sym, subst, arith}
use Rattle.mrp_types.specs.declared.value.Value.{Value}
use Rattle.command_codec.specs.Parts.{IsSpelled}
use Rattle.range_map.specs.Entries.{entries_from}
use Rattle.protocol.specs.Learner.{learned_ranges}
use Rattle.ring_learner.proofs.PageLemmas.{no_range, skips_first, batch_first, value_spelled}
use Rattle.ring_learner.proofs.paging.next_range.Goals.{in-Skip, in-Batch}
use Rattle.ring_learner.proofs.paging.next_range.Goals as goal

pub returns-in_default : goal.returns-in_default
returns-in_default c = no_range c.args.held.now c.args.from c.requires.ordered c.in_default.ensures

pub returns : goal.returns
returns c =
    let held = c.args.held.now in
    let some = c.in-Some.ensures.some in
    let spelled = value_spelled c.in-Some.lo held c.in-Some.value.now c.requires.each (c.in-Some.ensures.equal c.in-Some.lo (omega arith) some) in
    let told : (c.args.from < c.match-value.hi) × (learned_ranges (entries_from c.args.from held) ≡ (record { lo = c.in-Some.lo; hi = c.match-value.hi; value = c.in_ok-value.value }) ∷ learned_ranges (entries_from c.match-value.hi held)) =
    elim c.match-value.branch [
      | in-Skip w ↦ skips_first held c.args.from c.requires.ordered c.in-Some.lo c.in-Some.end c.in-Some.value.now c.in-Some.ensures c.match-value.hi c.in_ok-value.value w.in-Skip.is w.hi-is c.in_ok-value.ensures
      | in-Batch w ↦ batch_first held c.args.from c.requires.ordered c.in-Some.lo c.in-Some.end c.in-Some.value.now c.in-Some.ensures c.match-value.hi c.in_ok-value.value w.in-Batch.field-0 w.in-Batch.is w.hi-is c.in_ok-value.ensures
    ] in
    (told.0, subst (λ (v : Value). IsSpelled v) (sym c.in_ok-value.ensures) spelled, told.1)
