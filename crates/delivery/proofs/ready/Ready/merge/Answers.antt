use Rattle.std.proofs.Common.{arith, refl}
use Rattle.delivery.proofs.Moves.{IsLater, Going, Turned, begins, turned_later, turned_less, turned_goes, waited}
use Rattle.delivery.proofs.ready.Ready.merge.Goals as goal
use Rattle.delivery.proofs.ready.Ready.merge.Goals.{After-drop-entries-inside-in-places}

pub places-init : goal.places-init
places-init g c = record {
  later = record { partition = refl; sizes = refl; rings = refl; further = omega arith };
  goes = λ config service a fits. begins config service a c.args.self.now.standing c.args.lines.now c.args.replies.now;
}

turned : (g : _) (c : After-drop-entries-inside-in-places g) → Turned (g.L.Learned.maps c.args.learned.now) c.args.own c.in-Deliver.place c.in_ok-entries.entries c.places.self c.pass.new.self c.deliver.new.self c.places.lines c.deliver.new.lines
    c.places.replies c.deliver.new.replies
turned g c = record {
  tuple = c.in-Deliver.ensures.tuple;
  delivers = c.in-Deliver.ensures.merges;
  rest = c.in-Deliver.ensures.rest;
  rings = c.in-Deliver.ensures.rings;
  few = c.in-Deliver.ensures.few;
  known = c.in_ok-entries.ensures.entries;
  done_is = c.in_ok-deliver.ensures.ready;
  told = c.in_ok-deliver.ensures.told;
}

pub places-preserved : goal.places-preserved
places-preserved g c = record {
  later = turned_later _ _ _ _ c.args.self.now c.places.self c.pass.new.self c.deliver.new.self _ _ _ _ c.places.invariant.later (turned g c);
  goes = λ config service a fits. turned_goes config service a _ _ _ _ c.args.self.now c.places.self c.pass.new.self c.deliver.new.self _ _ _ _ _ _ c.places.invariant.later (turned g c) fits (c.places.invariant.goes config service a fits);
}

pub places-smaller : goal.places-smaller
places-smaller g c = turned_less _ _ _ _ c.places.self c.pass.new.self c.deliver.new.self _ _ _ _ (turned g c)

pub returns-in_default-clause-merges : goal.returns-in_default-clause-merges
returns-in_default-clause-merges g c = λ config service a fits.
    waited config service a _ _ c.in_default.field-0 c.args.self.now c.places.self c.pass.new.self _ _ _ _ c.places.invariant.later c.in_default.ensures.tuple c.in_default.ensures.merges c.in_default.ensures.rest
    c.in_default.ensures.rings c.in_default.ensures.few fits (c.places.invariant.goes config service a fits)
