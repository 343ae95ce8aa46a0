use Rattle.std.proofs.Common.{arith}
use Rattle.client_core.proofs.Zips.{zip_length, removed_zip}
use Rattle.client_core.proofs.parts.Parts.remove.Goals as goal

pub remove-requires : goal.remove-requires
remove-requires c =
    let long = zip_length c.self.inside.from.items c.self.inside.replies.items c.self.invariant in
    let low = rw (← c.self.view_is) at c.requires in
    omega (arith, low, long, c.self.inside.from.ok.0)

pub returns : goal.returns
returns c =
    rw (← c.self.view_is) (rw (c.remove.ensures.items, c.remove-2.ensures.items) (removed_zip c.self.inside.from.items c.self.inside.replies.items c.args.at c.self.invariant))
