use Rattle.std.proofs.Common.{◌∙◌, sym}
use Rattle.client_core.proofs.Zips.{replies_of_zip}
use Rattle.client_core.proofs.parts.Parts.replies.Goals as goal

pub returns : goal.returns
returns c =
    let zipped = replies_of_zip c.self.inside.from.items c.self.inside.replies.items c.self.invariant in
    rw (← c.self.view_is) (c.deref.ensures.value ∙ sym zipped)
