use Rattle.std.proofs.Common.{refl, sym}
use Rattle.range_map.proofs.EditLemmas.{joins_bare, joins_differ, joins_whole}
use Rattle.range_map.proofs.edits.join_at.Goals as goal

pub returns-in_default : goal.returns-in_default
returns-in_default g c = joins_bare c.args.runs.now.entries c.args.at c.requires c.if-at-eq0.false c.in_default.ensures

pub returns-then-not-same : goal.returns-then-not-same
returns-then-not-same g c =
    joins_differ c.args.runs.now.entries c.args.at c.in-Some.lo c.in-Some.left.now c.in-Some-get.right.now c.requires c.in-Some.ensures (sym c.in-Some-get.ensures.value)
    (λ is. let bad = c.if-not-same.ensures.1 is in cc)

pub returns : goal.returns
returns g c =
    joins_whole c.args.runs.now c.remove.new.self c.insert.new.self c.args.at c.in-Some.lo c.in-Some.left.now c.in-Some-get.right.now _ c.requires c.if-at-eq0.false c.in-Some.ensures (sym c.in-Some-get.ensures.value) (c.if-not-same.ensures.0 refl)
    c.remove.ensures.updates c.in_ok-insert.ensures.updates c.in_ok-insert.ensures.ordered refl c.in_ok-share.ensures
