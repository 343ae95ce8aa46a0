use Rattle.std.proofs.Common.{refl}
use Rattle.range_map.proofs.EditLemmas.{cuts_bare, cuts_begun, cuts_parted}
use Rattle.range_map.proofs.edits.cut_at.Goals as goal

pub returns-in_default : goal.returns-in_default
returns-in_default g c = cuts_bare c.args.runs.now.entries c.args.at c.requires c.in_default.ensures

pub returns-then-lo-at : goal.returns-then-lo-at
returns-then-lo-at g c = cuts_begun c.args.runs.now.entries c.args.at c.in-Some.lo c.in-Some.run'.now c.requires c.in-Some.ensures c.if-lo-at.true

pub returns : goal.returns
returns g c =
    cuts_parted c.args.runs.now c.insert.new.self c.insert-2.new.self c.args.at c.in-Some.lo c.in-Some.run'.now _ _ c.requires c.in-Some.ensures c.if-lo-at.false c.in_ok-insert.ensures.updates c.in_ok-insert-2.ensures.updates c.in_ok-insert-2.ensures.ordered
    refl c.in_ok-share.ensures refl c.in_ok-share-2.ensures
