use Rattle.client_core.proofs.Zips.{has_of_zip}
use Rattle.client_core.proofs.parts.Parts.has.Goals as goal

pub returns : goal.returns
returns c =
    rw (← c.self.view_is) (rw (has_of_zip c.self.inside.from.items c.self.inside.replies.items c.args.partition c.self.invariant, ← c.deref.ensures.value) c.has_id.ensures)
