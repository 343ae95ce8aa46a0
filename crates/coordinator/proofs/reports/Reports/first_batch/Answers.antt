use Rattle.std.proofs.Common.{ℕ, ◌∙◌, List, sym, ap, arith}
use Rattle.vote_state.specs.declared.cast.Cast.{Cast}
use Rattle.protocol.specs.Proposing.{first_where, is_batch}
use Rattle.coordinator.proofs.Reporting.{batch_found, skips_passed}
use Rattle.coordinator.proofs.reports.Reports.first_batch.Goals as goal

pub returns-in-Batch : goal.returns-in-Batch
returns-in-Batch c =
    c.min.ensures
    ∙ batch_found c.loop-at.at c.args.bound c.in-Some.lo c.in-Some.hi c.in-Some.cast.now c.in-Batch.field-0 c.self.inside.casts c.self.invariant.1 c.in-Some.ensures (ap (λ (x : Cast). x.value) (sym c.cast.view_is) ∙ c.in-Batch.is)
    ∙ ap (λ (es : List (ℕ × Cast)). first_where is_batch c.loop-at.at c.args.bound es) c.self.view_is
    ∙ c.loop-at.invariant.same

pub loop-at-preserved : goal.loop-at-preserved
loop-at-preserved c =
    let run = c.in-Some.ensures in
    let up = run.begins.from_there in
    let some = run.some in
    let begun = c.loop-at.invariant.begun in
    record {
      begun = omega arith;
      same =
          ap (λ (es : List (ℕ × Cast)). first_where is_batch c.in-Some.hi c.args.bound es) (sym c.self.view_is)
          ∙ skips_passed c.loop-at.at c.args.bound c.in-Some.lo c.in-Some.hi c.in-Some.cast.now c.self.inside.casts c.self.invariant.1 c.in-Some.ensures (ap (λ (x : Cast). x.value) (sym c.cast.view_is) ∙ c.in-Skip.is)
          ∙ ap (λ (es : List (ℕ × Cast)). first_where is_batch c.loop-at.at c.args.bound es) c.self.view_is
          ∙ c.loop-at.invariant.same;
    }
