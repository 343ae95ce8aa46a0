use Rattle.std.proofs.Common.{◌≡◌, ◌∙◌, sym, None, Some}
use Rattle.client_core.proofs.Rules.{free_replies}
use Rattle.client_core.proofs.client.ClientCore.on_reply.Goals as goal

pub returns-in_default-clause-replied : goal.returns-in_default-clause-replied
returns-in_default-clause-replied c =
    let before : c.self.inside.waiting ≡ None = sym c.take.ensures.value ∙ c.in_default.is in
    rw (← c.self.view_is) (rw (c.take.ensures.after, before) (free_replies c.self.inside.deployment c.self.inside.id c.self.inside.next c.args.seq c.args.partition c.args.reply.now))

pub returns-in-Ok-Some-clause-replied : goal.returns-in-Ok-Some-clause-replied
returns-in-Ok-Some-clause-replied c =
    let before : c.self.inside.waiting ≡ Some c.in-Some.waiting = sym c.take.ensures.value ∙ c.in-Some.is in
    let taken = rw c.in-Ok-Some.field-0-is at c.in-Ok-Some.ensures.taken in
    rw (← c.self.view_is) (rw (c.take.ensures.after, before) (taken c.self.inside.id c.self.inside.next))

pub returns-in-Ok-None-clause-replied : goal.returns-in-Ok-None-clause-replied
returns-in-Ok-None-clause-replied c =
    let before : c.self.inside.waiting ≡ Some c.in-Some.waiting = sym c.take.ensures.value ∙ c.in-Some.is in
    let taken = rw c.in-Ok-None.field-0-is at c.in-Ok-None.ensures.taken in
    rw (← c.self.view_is) (rw before (taken c.self.inside.id c.self.inside.next))
