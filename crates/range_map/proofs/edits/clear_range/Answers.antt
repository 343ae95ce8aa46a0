use Rattle.std.proofs.Common.{◌∙◌, arith, None}
use Rattle.range_map.proofs.EditLemmas.{key_beside}
use Rattle.range_map.proofs.SetLemmas.{placed_removed}
use Rattle.range_map.proofs.edits.clear_range.Goals as goal

pub loop-first-preserved-in-Some : goal.loop-first-preserved-in-Some
loop-first-preserved-in-Some g c =
    let from = c.in-Some.ensures.in_range.0 in
    let below = c.in-Some.ensures.in_range.1 in
    let m = c.loop-first.runs in
    let n = c.remove.new.self in
    record {
      placed = λ p. placed_removed m n c.in-Some.first c.remove.ensures.updates c.remove.ensures.ordered (c.loop-first.invariant.placed p);
      before = λ a lt. key_beside m n c.in-Some.first None c.remove.ensures.updates a (λ is. omega arith) ∙ c.loop-first.invariant.before a lt;
      after = λ a ge. key_beside m n c.in-Some.first None c.remove.ensures.updates a (λ is. omega arith) ∙ c.loop-first.invariant.after a ge;
    }
