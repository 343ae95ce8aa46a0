use Rattle.std.proofs.Common.{drop, sym, ap, ◌∙◌}
use Rattle.std.proofs.lemmas.List.{drop_all}
use Rattle.checkpoint.specs.Checkpoints.{is_after}
use Rattle.checkpoint_disk.proofs.Damages.{none_after}
use Rattle.checkpoint_disk.proofs.tuples.is_after.Goals as goal

pub returns-then-i-others : goal.returns-then-i-others
returns-then-i-others c =
    let rest = drop c.loop-i.i c.args.own.now in
    sym (none_after rest) ∙ ap (is_after rest) (sym (drop_all c.loop-i.i c.args.others.now c.if-i-others.true)) ∙ c.loop-i.invariant
