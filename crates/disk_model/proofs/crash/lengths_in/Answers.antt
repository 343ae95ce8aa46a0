use Rattle.std.proofs.Common.{◌≡◌, ◌+◌, ◌∙◌, ap, min, max, [], ◌∷◌, drop, length, sym, arith}
use Rattle.std.proofs.lemmas.List.{drop_more}
use Rattle.disk_model.specs.Calls.{own}
use Rattle.disk_model.specs.Steps.{after, least, most}
use Rattle.disk_model.proofs.OwnSteps.{least-bound, most-bound, least-own-cons, most-own-cons}
use Rattle.disk_model.proofs.crash.lengths_in.Goals as goal

pub loop-call-init : goal.loop-call-init
loop-call-init c =
    let steps = own c.args.area c.args.calls.now in
    let e : c.in_ok-file.file ≡ c.args.start.now = c.in_ok-file.ensures ∙ c.bytes.ensures in
    record {
      low = omega arith;
      high = omega arith;
      least = omega (arith, least-bound c.in_ok-file.file steps, ap (λ f. least f steps) e);
      most = omega (arith, most-bound c.in_ok-file.file steps, ap (λ f. most f steps) e);
    }

pub loop-call-preserved : goal.loop-call-preserved
loop-call-preserved c =
    let area = c.args.area in
    let calls = c.args.calls.now in
    let file = c.loop-call.file in
    let i = c.loop-call.call-index in
    let call = c.call-item.result in
    let rest = drop (i + 1) calls in
    let here : drop i calls ≡ call ∷ rest = drop_more calls i call c.loop-call-test.true ∙ ap (λ x. x ∷ rest) (sym c.call-item.is) in
    let done : c.apply.new.file ≡ after file (own area (call ∷ [])) = c.in_ok-apply.ensures in
    let low = ap (λ cs. least file (own area cs)) here ∙ least-own-cons file area call rest ∙ ap (λ f. min (length file) (least f (own area rest))) (sym done) in
    let high = ap (λ cs. most file (own area cs)) here ∙ most-own-cons file area call rest ∙ ap (λ f. max (length file) (most f (own area rest))) (sym done) in
    record {
      low = omega arith;
      high = omega arith;
      least = omega (arith, low, least-bound c.apply.new.file (own area rest));
      most = omega (arith, high, most-bound c.apply.new.file (own area rest));
    }
